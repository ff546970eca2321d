use Rattle.std.proofs.Common.{◌<◌}
use Rattle.std.specs.Prelude.{Contains}
use Rattle.graph_terms.specs.declared.verb.Edge.{Edge}
use Rattle.graph_terms.specs.Edges.{edges}
use Rattle.cycle_search.proofs.order.all_edges_ascend.Given as goal

abbrev pub invariant-loop-line : goal.invariant-loop-line
invariant-loop-line l = (e : Edge) → Contains (edges l.graph) e → e.to < l.line → e.from < e.to
