use Rattle.std.proofs.Common.{◌∷◌, drop}
use Rattle.std.specs.List.{flat_map}
use Rattle.graph_terms.specs.Spelling.{line_name}
use Rattle.realm_io.specs.Written.{Progress}
use Rattle.graph_writer.proofs.writer.put_events.Given as goal

abbrev pub invariant-loop-event : goal.invariant-loop-event
invariant-loop-event g l = Progress (g.K.Sink.state l.initial.sink) (g.K.Sink.state l.sink)
    (flat_map (λ n. 32 ∷ line_name l.graph n) l.events) (flat_map (λ n. 32 ∷ line_name l.graph n) (drop l.event-index l.events))
