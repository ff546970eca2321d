use Rattle.std.proofs.Common.{drop}
use Rattle.graph_terms.specs.Spelling.{interval_word}
use Rattle.graph_writer.specs.WrittenWords.{comma_from}
use Rattle.realm_io.specs.Written.{Progress}
use Rattle.graph_writer.proofs.writer.put_intervals.Given as goal

abbrev pub invariant-loop-i : goal.invariant-loop-i
invariant-loop-i g l = Progress (g.K.Sink.state l.initial.sink) (g.K.Sink.state l.sink)
    (comma_from interval_word 0 l.intervals) (comma_from interval_word l.i (drop l.i l.intervals))
