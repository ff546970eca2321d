use Rattle.std.proofs.Common.{◌≡◌, ◌+◌, ◌≤◌, ◌++◌, length, map, take, vec_len}
use Rattle.std.specs.Vec.{vec_capacity}
use Rattle.graph_terms.specs.Edges.{edge}
use Rattle.graph_items.proofs.edges.push_sources.Given as goal

abbrev pub invariant-loop-from : goal.invariant-loop-from
invariant-loop-from l = record {
  added : l.given.items ≡ l.initial.given.items ++ map (λ e. edge e l.to l.kind) (take l.from-index l.sources);
  room : vec_len l.given + length l.sources ≤ vec_capacity l.given + l.from-index;
}
