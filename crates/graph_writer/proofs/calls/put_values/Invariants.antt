use Rattle.std.proofs.Common.{◌∷◌, drop}
use Rattle.std.specs.Prelude.{decimal}
use Rattle.std.specs.List.{flat_map}
use Rattle.realm_io.specs.Written.{Progress}
use Rattle.graph_writer.proofs.calls.put_values.Given as goal

abbrev pub invariant-loop-value : goal.invariant-loop-value
invariant-loop-value g l = Progress (g.K.Sink.state l.initial.sink) (g.K.Sink.state l.sink)
    (flat_map (λ n. 32 ∷ decimal n) l.values) (flat_map (λ n. 32 ∷ decimal n) (drop l.value-index l.values))
