use Rattle.std.proofs.Common.{◌+◌, ◌-◌, arith}
use Rattle.realm_io.proofs.Public.{stops, goes_on, breaks_off}
use Rattle.run_report.proofs.ReportRest.{cells_piece}
use Rattle.run_report.proofs.report.put_cells.Goals as goal

pub returns-in_err-put_bytes : goal.returns-in_err-put_bytes
returns-in_err-put_bytes g c =
    let i = c.loop-rank.invariant in
    let p = c.add_cells-start in
    stops _ _ _ c.from_residual.result c.from_residual.ensures.0 (breaks_off _ _ _ _ _ _ _ i.progress
    (cells_piece c.args.column.now.cells p.new.text c.loop-rank.rank (c.loop-rank.rank + c.min.result) c.args.end p.result (504 - p.result) (omega arith) (omega (arith, i.high, c.loop-rank-test.true, c.min.ensures)) (omega (arith, p.array_long, p.ensures.start)) p.ensures.bytes)
    c.in_err-put_bytes.ensures)

pub loop-rank-preserved : goal.loop-rank-preserved
loop-rank-preserved g c =
    let i = c.loop-rank.invariant in
    let p = c.add_cells-start in
    record {
      low = omega (arith, i.low);
      high = omega (arith, i.high, c.loop-rank-test.true, c.min.ensures);
      progress = goes_on _ _ _ _ _ _ _ i.progress
          (cells_piece c.args.column.now.cells p.new.text c.loop-rank.rank (c.loop-rank.rank + c.min.result) c.args.end p.result (504 - p.result) (omega arith) (omega (arith, i.high, c.loop-rank-test.true, c.min.ensures)) (omega (arith, p.array_long, p.ensures.start)) p.ensures.bytes)
          c.in_ok-put_bytes.ensures;
    }
