use Rattle.std.proofs.Common.{◌-◌, ◌≤◌, length}
use Rattle.realm_io.specs.Written.{Progress}
use Rattle.run_report.specs.Report.{op_texts, op_texts_from}
use Rattle.run_report.proofs.report.put_ops.Given as goal

abbrev pub invariant-loop-first : goal.invariant-loop-first
invariant-loop-first g l = record {
  within : l.first ≤ length l.graph.lines;
  progress : Progress (g.K.Sink.state l.initial.sink) (g.K.Sink.state l.sink)
      (op_texts l.graph.lines l.outcome.ends l.outcome.answers) (op_texts_from l.graph.lines l.outcome.ends l.outcome.answers l.first);
}

abbrev pub decreases-loop-first : goal.decreases-loop-first
decreases-loop-first g l = length l.graph.lines - l.first
