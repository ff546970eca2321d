use Rattle.std.proofs.Common.{◌≡◌, false, length}
use Rattle.std.specs.List.{list_any}
use Rattle.graph_terms.specs.Fits.{data_unknown, accesses_clash}
use Rattle.graph_model.proofs.graph.Graph.clashes_with.Given as goal

abbrev pub invariant-loop-rest : goal.invariant-loop-rest
invariant-loop-rest l = record {
  same : list_any (accesses_clash l.self l.one) l.others ≡ list_any (accesses_clash l.self l.one) l.rest;
  known : list_any (data_unknown l.self) l.rest ≡ false;
}

abbrev pub decreases-loop-rest : goal.decreases-loop-rest
decreases-loop-rest l = length l.rest
