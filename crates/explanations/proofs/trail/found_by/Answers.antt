use Rattle.std.proofs.Common.{subst}
use Rattle.std.specs.Prelude.{◌==◌, filter, Contains, slice_index}
use Rattle.graph_terms.specs.Edges.{edges}
use Rattle.explanations.specs.Search.{near_end, far_end, IsNearest}
use Rattle.explanations.proofs.Trails.{nearest_in, nearest_far, found_by_some, one_less}
use Rattle.explanations.proofs.trail.found_by.Goals as goal

pub unreachable-requires : goal.unreachable-requires
unreachable-requires c =
    found_by_some (edges c.args.graph.now) (near_end c.args.way) (far_end c.args.way) (slice_index c.args.counts.now) c.args.line (Contains c.requires.counts.0) c.requires.counts.1 c.requires.found
    (subst (λ o. IsNearest (near_end c.args.way) (slice_index c.args.counts.now) (filter (λ e. far_end c.args.way e == c.args.line) (edges c.args.graph.now)) o) c.in-None.is c.nearest_edge.ensures)

pub returns-clause-edge : goal.returns-clause-edge
returns-clause-edge c =
    nearest_in (edges c.args.graph.now) (near_end c.args.way) (far_end c.args.way) (slice_index c.args.counts.now) c.args.line c.in-Some.edge
    (subst (λ o. IsNearest (near_end c.args.way) (slice_index c.args.counts.now) (filter (λ e. far_end c.args.way e == c.args.line) (edges c.args.graph.now)) o) c.in-Some.is c.nearest_edge.ensures)

pub returns-clause-leads : goal.returns-clause-leads
returns-clause-leads c =
    nearest_far (edges c.args.graph.now) (near_end c.args.way) (far_end c.args.way) (slice_index c.args.counts.now) c.args.line c.in-Some.edge
    (subst (λ o. IsNearest (near_end c.args.way) (slice_index c.args.counts.now) (filter (λ e. far_end c.args.way e == c.args.line) (edges c.args.graph.now)) o) c.in-Some.is c.nearest_edge.ensures)

pub returns-clause-one_less : goal.returns-clause-one_less
returns-clause-one_less c =
    one_less (edges c.args.graph.now) (near_end c.args.way) (far_end c.args.way) (slice_index c.args.counts.now) c.args.line (Contains c.requires.counts.0) c.requires.counts.1 c.requires.found c.in-Some.edge
    (subst (λ o. IsNearest (near_end c.args.way) (slice_index c.args.counts.now) (filter (λ e. far_end c.args.way e == c.args.line) (edges c.args.graph.now)) o) c.in-Some.is c.nearest_edge.ensures)
