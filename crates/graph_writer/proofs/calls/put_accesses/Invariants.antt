use Rattle.std.proofs.Common.{drop}
use Rattle.std.specs.List.{flat_map}
use Rattle.graph_terms.specs.Spelling.{access_words}
use Rattle.realm_io.specs.Written.{Progress}
use Rattle.graph_writer.specs.WrittenWords.{spaced}
use Rattle.graph_writer.proofs.calls.put_accesses.Given as goal

abbrev pub invariant-loop-access : goal.invariant-loop-access
invariant-loop-access g l = Progress (g.K.Sink.state l.initial.sink) (g.K.Sink.state l.sink)
    (flat_map (λ a. spaced (access_words l.graph a)) l.accesses) (flat_map (λ a. spaced (access_words l.graph a)) (drop l.access-index l.accesses))
