use Rattle.std.proofs.Common.{length, subst}
use Rattle.std.specs.Prelude.{Contains, slice_index}
use Rattle.graph_terms.specs.Edges.{edges}
use Rattle.explanations.specs.Search.{near_end, far_end, way_edges, is_start, AreCounts, AreOrigins}
use Rattle.explanations.proofs.Marking.{follow_in}
use Rattle.explanations.proofs.ReachFacts.{onward_counts, onward_origins, each_reached, are_linked, reached_from, is_some}
use Rattle.explanations.proofs.reaches.reach_onward.Goals as goal

pub search_from-requires : goal.search_from-requires
search_from-requires c = λ i m. (c.in_ok-starts.ensures.listed i (subst (λ xs. Contains xs i) c.as_slice.ensures.value m)).0

pub returns-clause-reached : goal.returns-clause-reached
returns-clause-reached c =
    let g = c.args.graph.now in
    let starts = c.in_ok-starts.starts.items in
    let all = way_edges c.args.way c.args.ends.now (edges g) in
    let a = onward_counts c.args.way all (Contains starts) (slice_index c.in_ok-tree.tree.counts.items) c.requires
    (subst (λ xs. AreCounts all (near_end c.args.way) (far_end c.args.way) (Contains xs) (slice_index c.in_ok-tree.tree.counts.items)) c.as_slice.ensures.value c.in_ok-tree.ensures.counts) in
    let o = onward_origins c.args.way all starts c.in_ok-tree.tree.counts.items c.in_ok-tree.tree.origins.items c.requires
    (subst (λ xs. AreOrigins all (near_end c.args.way) (far_end c.args.way) xs c.in_ok-tree.tree.counts.items c.in_ok-tree.tree.origins.items) c.as_slice.ensures.value c.in_ok-tree.ensures.origins) in
    each_reached all starts c.in_ok-tree.tree.counts.items c.in_ok-tree.tree.origins.items a o c.in_ok-reaches.reaches.items c.in_ok-reaches.ensures.each
    (length g.lines) c.in_ok-tree.ensures.size (λ e h. (c.edges_between_lines.ensures g e c.lines.ensures.is_graph (follow_in c.args.way c.args.ends.now (edges g) e h).0).0)
    (is_start c.args.way g c.args.ends.now) c.in_ok-starts.ensures.listed c.in_ok-starts.ensures.all

pub returns-clause-linked : goal.returns-clause-linked
returns-clause-linked c =
    let g = c.args.graph.now in
    let starts = c.in_ok-starts.starts.items in
    let all = way_edges c.args.way c.args.ends.now (edges g) in
    let a = onward_counts c.args.way all (Contains starts) (slice_index c.in_ok-tree.tree.counts.items) c.requires
    (subst (λ xs. AreCounts all (near_end c.args.way) (far_end c.args.way) (Contains xs) (slice_index c.in_ok-tree.tree.counts.items)) c.as_slice.ensures.value c.in_ok-tree.ensures.counts) in
    let o = onward_origins c.args.way all starts c.in_ok-tree.tree.counts.items c.in_ok-tree.tree.origins.items c.requires
    (subst (λ xs. AreOrigins all (near_end c.args.way) (far_end c.args.way) xs c.in_ok-tree.tree.counts.items c.in_ok-tree.tree.origins.items) c.as_slice.ensures.value c.in_ok-tree.ensures.origins) in
    are_linked all starts c.in_ok-tree.tree.counts.items c.in_ok-tree.tree.origins.items a o c.in_ok-reaches.reaches.items c.in_ok-reaches.ensures.each

pub returns-clause-complete : goal.returns-clause-complete
returns-clause-complete c = λ k i p below test l.
    (let g = c.args.graph.now in
    let starts = c.in_ok-starts.starts.items in
    let all = way_edges c.args.way c.args.ends.now (edges g) in
    let a = onward_counts c.args.way all (Contains starts) (slice_index c.in_ok-tree.tree.counts.items) c.requires
    (subst (λ xs. AreCounts all (near_end c.args.way) (far_end c.args.way) (Contains xs) (slice_index c.in_ok-tree.tree.counts.items)) c.as_slice.ensures.value c.in_ok-tree.ensures.counts) in
    let o = onward_origins c.args.way all starts c.in_ok-tree.tree.counts.items c.in_ok-tree.tree.origins.items c.requires
    (subst (λ xs. AreOrigins all (near_end c.args.way) (far_end c.args.way) xs c.in_ok-tree.tree.counts.items c.in_ok-tree.tree.origins.items) c.as_slice.ensures.value c.in_ok-tree.ensures.origins) in
    is_some c.in_ok-reaches.reaches.items i (reached_from all starts c.in_ok-tree.tree.counts.items c.in_ok-tree.tree.origins.items a o c.in_ok-reaches.reaches.items c.in_ok-reaches.ensures.each k i p (c.in_ok-starts.ensures.all k below test) l))
