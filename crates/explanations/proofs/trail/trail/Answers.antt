use Rattle.std.proofs.Common.{◌<◌, ◌++◌, ◌∷◌, [], length, ap, sym, subst, ◌∙◌, arith}
use Rattle.std.specs.Prelude.{◌==◌, filter, slice_index}
use Rattle.graph_terms.specs.Edges.{edges}
use Rattle.explanations.specs.Search.{near_end, far_end, IsNearest}
use Rattle.explanations.proofs.Levels.{ends_known}
use Rattle.explanations.proofs.Trails.{nearest_is_none, nearest_in, trailing_begins, trailing_more, trailing_ends}
use Rattle.explanations.proofs.trail.trail.Goals as goal

pub returns-in_default : goal.returns-in_default
returns-in_default c =
    nearest_is_none (edges c.args.graph.now) (near_end c.args.way) (far_end c.args.way) (slice_index c.args.counts.now) c.args.line
    (subst (λ o. IsNearest (near_end c.args.way) (slice_index c.args.counts.now) (filter (λ e. far_end c.args.way e == c.args.line) (edges c.args.graph.now)) o) c.in_default.is c.nearest_edge.ensures)

pub loop-at-init : goal.loop-at-init
loop-at-init c =
    let g = c.args.graph.now in
    let n = subst (λ o. IsNearest (near_end c.args.way) (slice_index c.args.counts.now) (filter (λ e. far_end c.args.way e == c.args.line) (edges c.args.graph.now)) o) c.in-Some.is c.nearest_edge.ensures in
    record {
      known = subst (λ x. x < length g.lines) (sym c.near_end-at.ensures)
          (ends_known c.edges_between_lines.ensures g c.lines.ensures.is_graph c.args.way c.in-Some.first (nearest_in (edges g) (near_end c.args.way) (far_end c.args.way) (slice_index c.args.counts.now) c.args.line c.in-Some.first n)).0;
      trailing = trailing_begins (edges g) (near_end c.args.way) (far_end c.args.way) (slice_index c.args.counts.now) c.args.line c.in-Some.first n c.near_end-at.result c.near_end-at.ensures
          c.push.new.items.items (c.in_ok-push.ensures.ok ∙ ap (λ xs. xs ++ c.in-Some.first ∷ []) c.new-edges.ensures.items);
    }

pub loop-at-preserved : goal.loop-at-preserved
loop-at-preserved c =
    let g = c.args.graph.now in
    let found = c.found_by-edge in
    record {
      known = subst (λ x. x < length g.lines) (sym c.near_end-at-in-loop-at.ensures) (ends_known c.edges_between_lines.ensures g c.lines.ensures.is_graph c.args.way found.result found.ensures.edge).0;
      trailing = trailing_more (edges g) (near_end c.args.way) (far_end c.args.way) (slice_index c.args.counts.now) c.args.line c.loop-at.at c.loop-at.edges.items c.loop-at.invariant.trailing
          found.result found.ensures.edge found.ensures.leads found.ensures.found found.ensures.one_less c.near_end-at-in-loop-at.result c.near_end-at-in-loop-at.ensures
          c.push-in-loop-at.new.items.items c.in_ok-push-2.ensures.ok;
    }

pub returns : goal.returns
returns c =
    trailing_ends (edges c.args.graph.now) (near_end c.args.way) (far_end c.args.way) (slice_index c.args.counts.now) c.args.line c.loop-at.at c.loop-at.edges.items c.loop-at.invariant.trailing (omega (arith, c.loop-at-test.false))
