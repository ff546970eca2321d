use Rattle.std.proofs.Common.{◌≡◌, false, length}
use Rattle.std.specs.List.{list_any}
use Rattle.graph_terms.specs.Fits.{data_unknown, data_outside}
use Rattle.graph_model.proofs.graph.Graph.any_outside.Given as goal

abbrev pub invariant-loop-rest : goal.invariant-loop-rest
invariant-loop-rest l = record {
  same : list_any (data_outside l.self) l.accesses ≡ list_any (data_outside l.self) l.rest;
  known : list_any (data_unknown l.self) l.rest ≡ false;
}

abbrev pub decreases-loop-rest : goal.decreases-loop-rest
decreases-loop-rest l = length l.rest
