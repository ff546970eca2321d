use Rattle.std.proofs.Common.{◌+◌, ◌++◌, sym, ap, ◌∙◌, append_assoc, take, arith}
use Rattle.run_report.specs.Report.{op_texts_from}
use Rattle.run_report.proofs.ReportRest.{ops_left}
use Rattle.run_report.proofs.report.add_ops.Goals as goal

pub loop-i-preserved : goal.loop-i-preserved
loop-i-preserved c =
    let i = c.loop-i.invariant in
    let p = c.add_op-used in
    let ls = c.args.graph.now.lines in
    let es = c.args.outcome.now.ends in
    let as' = c.args.outcome.now.answers in
    let front = take c.loop-i.used c.loop-i.text in
    record {
      room = omega (arith, i.room, p.ensures.size);
      bytes = i.bytes ∙ (ap (λ xs. front ++ xs) (ops_left _ _ _ c.loop-i.i _ _ _ c.line.ensures.line c.at.ensures c.at-in-loop-i.ensures)
          ∙ (sym (append_assoc front _ _) ∙ ap (λ xs. xs ++ op_texts_from ls es as' (c.loop-i.i + 1)) (sym p.ensures.bytes)));
    }
