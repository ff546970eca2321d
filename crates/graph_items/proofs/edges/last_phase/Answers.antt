use Rattle.std.proofs.Common.{◌≤◌, length, sym, ◌∙◌, arith}
use Rattle.graph_terms.specs.Graph.{is_phase_of}
use Rattle.graph_terms.proofs.Public.{last_place_here, last_place_below}
use Rattle.graph_items.proofs.edges.last_phase.Goals as goal

pub returns-then-is_phase_of : goal.returns-then-is_phase_of
returns-then-is_phase_of c = sym (c.loop-place.invariant.none_above
    ∙ last_place_here (is_phase_of c.args.barrier) c.args.lines.now c.loop-place.place c.index-lines-place.result (omega arith) c.loop-place.invariant.below (sym c.is_phase_of.ensures ∙ c.if-is_phase_of.true))

pub loop-place-preserved : goal.loop-place-preserved
loop-place-preserved c = record {
  below = (let b : c.loop-place.place ≤ length c.args.lines.now = c.loop-place.invariant.below in omega arith);
  none_above = c.loop-place.invariant.none_above
      ∙ last_place_below (is_phase_of c.args.barrier) c.args.lines.now c.loop-place.place c.index-lines-place.result (omega arith) c.loop-place.invariant.below (sym c.is_phase_of.ensures ∙ c.if-is_phase_of.false);
}
