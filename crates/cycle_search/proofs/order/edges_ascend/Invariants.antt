use Rattle.std.proofs.Common.{◌<◌, take}
use Rattle.std.specs.Prelude.{Contains}
use Rattle.graph_terms.specs.declared.verb.Edge.{Edge}
use Rattle.cycle_search.proofs.order.edges_ascend.Given as goal

abbrev pub invariant-loop-edge : goal.invariant-loop-edge
invariant-loop-edge l = (e : Edge) → Contains (take l.edge-index l.edges) e → e.from < l.line
