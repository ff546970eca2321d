use Rattle.std.proofs.Common.{arith}
use Rattle.realm_io.proofs.Public.{stops, goes_on, breaks_off}
use Rattle.run_report.proofs.report.put_ops.Goals as goal

pub returns-in_err-put_bytes : goal.returns-in_err-put_bytes
returns-in_err-put_bytes g c =
    stops _ _ _ c.from_residual.result c.from_residual.ensures.0
    (breaks_off _ _ _ _ _ _ _ c.loop-first.invariant.progress c.add_ops-size.ensures.bytes c.in_err-put_bytes.ensures)

pub loop-first-preserved : goal.loop-first-preserved
loop-first-preserved g c =
    let i = c.loop-first.invariant in
    record {
      within = omega (arith, i.within, c.loop-first-test.true, c.min.ensures, c.lines-lines.ensures);
      progress = goes_on _ _ _ _ _ _ _ i.progress c.add_ops-size.ensures.bytes c.in_ok-put_bytes.ensures;
    }
