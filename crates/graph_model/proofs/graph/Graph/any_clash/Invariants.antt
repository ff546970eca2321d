use Rattle.std.proofs.Common.{◌≡◌, false, length, take}
use Rattle.std.specs.List.{list_any}
use Rattle.graph_terms.specs.Fits.{repeats, data_unknown, accesses_clash}
use Rattle.graph_terms.specs.declared.limits.TheConstants.{MAX_COMPARED_ACCESSES}
use Rattle.graph_model.proofs.graph.Graph.any_clash.Given as goal

abbrev pub invariant-loop-rest : goal.invariant-loop-rest
invariant-loop-rest l = record {
  same : repeats (accesses_clash l.self) (take MAX_COMPARED_ACCESSES l.accesses) ≡ repeats (accesses_clash l.self) l.rest;
  known : list_any (data_unknown l.self) l.rest ≡ false;
}

abbrev pub decreases-loop-rest : goal.decreases-loop-rest
decreases-loop-rest l = length l.rest
