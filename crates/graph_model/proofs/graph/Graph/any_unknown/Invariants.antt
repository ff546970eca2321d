use Rattle.std.proofs.Common.{◌≡◌, length}
use Rattle.std.specs.List.{list_any}
use Rattle.graph_terms.specs.Fits.{data_unknown}
use Rattle.graph_model.proofs.graph.Graph.any_unknown.Given as goal

abbrev pub invariant-loop-rest : goal.invariant-loop-rest
invariant-loop-rest l = list_any (data_unknown l.self) l.accesses ≡ list_any (data_unknown l.self) l.rest

abbrev pub decreases-loop-rest : goal.decreases-loop-rest
decreases-loop-rest l = length l.rest
