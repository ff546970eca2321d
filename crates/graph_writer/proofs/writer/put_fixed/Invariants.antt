use Rattle.std.proofs.Common.{drop}
use Rattle.basics.specs.Words.{contents}
use Rattle.realm_io.specs.Written.{Progress}
use Rattle.graph_writer.specs.WrittenWords.{spaced}
use Rattle.graph_writer.proofs.writer.put_fixed.Given as goal

abbrev pub invariant-loop-i : goal.invariant-loop-i
invariant-loop-i g l = Progress (g.K.Sink.state l.initial.sink) (g.K.Sink.state l.sink) (spaced (contents l.words)) (spaced (drop l.i (contents l.words)))
