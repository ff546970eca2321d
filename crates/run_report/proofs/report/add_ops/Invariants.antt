use Rattle.std.proofs.Common.{◌≡◌, ◌-◌, ◌*◌, ◌++◌, ◌≤◌, take}
use Rattle.run_report.specs.Report.{op_texts_from}
use Rattle.run_report.proofs.report.add_ops.Given as goal

abbrev pub invariant-loop-i : goal.invariant-loop-i
invariant-loop-i l = record {
  room : l.used ≤ 87 * (l.i - l.first);
  bytes : op_texts_from l.graph.lines l.outcome.ends l.outcome.answers l.first ≡ take l.used l.text ++ op_texts_from l.graph.lines l.outcome.ends l.outcome.answers l.i;
}
