use Rattle.std.proofs.Common.{◌≡◌, List, false, length, map, take}
use Rattle.std.specs.List.{list_any}
use Rattle.basics.specs.Lists.{numbers_below}
use Rattle.graph_terms.specs.declared.verb.Edge.{Edge}
use Rattle.graph_meaning.specs.Evaluation.{Step, end_in, cancels}
use Rattle.plain_eval.proofs.state.is_cancelled.Given as goal

abbrev pub invariant-loop-edge : goal.invariant-loop-edge
invariant-loop-edge l = record {
  none : (ss : List Step) → l.ends ≡ map (end_in ss) (numbers_below (length l.graph.lines)) → list_any (λ (e : Edge). cancels e.kind (end_in ss e.from)) (take l.edge-index l.edges) ≡ false;
}
