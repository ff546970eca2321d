use Rattle.std.proofs.Common.{◌∷◌, [], sym, subst}
use Rattle.std.specs.Prelude.{Contains, slice_index}
use Rattle.graph_terms.specs.Edges.{edges}
use Rattle.explanations.specs.declared.search.Way.TheVariants.{Back}
use Rattle.explanations.specs.Search.{near_end, far_end, AreCounts}
use Rattle.explanations.proofs.PathFacts.{answer_shortest, answer_none}
use Rattle.explanations.proofs.paths.shortest_path.Goals as goal

pub returns-clause-shortest : goal.returns-clause-shortest
returns-clause-shortest c =
    answer_shortest c.args.graph.now c.args.to (slice_index c.as_slice.result.now)
    (subst (λ xs. AreCounts (edges c.args.graph.now) (near_end Back) (far_end Back) (Contains (c.args.to ∷ [])) (slice_index xs)) (sym c.as_slice.ensures.value) c.in_ok-tree.ensures.counts)
    c.args.from c.trail.result c.trail.ensures

pub returns-clause-none : goal.returns-clause-none
returns-clause-none c =
    answer_none c.args.graph.now c.args.to (slice_index c.as_slice.result.now)
    (subst (λ xs. AreCounts (edges c.args.graph.now) (near_end Back) (far_end Back) (Contains (c.args.to ∷ [])) (slice_index xs)) (sym c.as_slice.ensures.value) c.in_ok-tree.ensures.counts)
    c.args.from c.trail.result c.trail.ensures
