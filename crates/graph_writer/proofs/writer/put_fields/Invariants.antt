use Rattle.std.proofs.Common.{drop}
use Rattle.graph_writer.specs.WrittenWords.{comma_from}
use Rattle.realm_io.specs.Written.{Progress}
use Rattle.graph_writer.proofs.writer.put_fields.Given as goal

abbrev pub invariant-loop-i : goal.invariant-loop-i
invariant-loop-i g l = Progress (g.K.Sink.state l.initial.sink) (g.K.Sink.state l.sink)
    (comma_from (λ w. w) 0 l.fields) (comma_from (λ w. w) l.i (drop l.i l.fields))
