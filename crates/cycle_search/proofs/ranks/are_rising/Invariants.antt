use Rattle.std.proofs.Common.{◌<◌, ◌≤◌}
use Rattle.std.specs.Prelude.{Contains, slice_index}
use Rattle.graph_terms.specs.declared.verb.Edge.{Edge}
use Rattle.graph_terms.specs.Edges.{edges}
use Rattle.cycle_search.proofs.ranks.are_rising.Given as goal

abbrev pub invariant-loop-line : goal.invariant-loop-line
invariant-loop-line l = (e : Edge) → Contains (edges l.graph) e → e.to < l.line → slice_index l.ranks e.from ≤ slice_index l.ranks e.to
