use Rattle.std.proofs.Common.{drop}
use Rattle.realm_io.specs.Written.{Progress}
use Rattle.graph_writer.specs.WrittenWords.{part_text}
use Rattle.graph_writer.proofs.writer.put_places.Given as goal

abbrev pub invariant-loop-i : goal.invariant-loop-i
invariant-loop-i g l = Progress (g.K.Sink.state l.initial.sink) (g.K.Sink.state l.sink) (part_text l.graph 0 l.places l.parts) (part_text l.graph l.i (drop l.i l.places) l.parts)
