use Rattle.std.proofs.Common.{◌≡◌, ◌+◌, ◌*◌, ◌≤◌, ℕ, length, take}
use Rattle.std.specs.Prelude.{sum_by}
use Rattle.graph_terms.specs.Spelling.{line_name}
use Rattle.graph_model.proofs.graph.Graph.events_size.Given as goal

abbrev pub invariant-loop-event : goal.invariant-loop-event
invariant-loop-event l = record {
  sum : l.size ≡ sum_by (λ (i : ℕ). length (line_name l.self i) + 1) (take l.event-index l.events);
  few : l.size ≤ 64 * l.event-index;
}
