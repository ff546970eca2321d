use Rattle.std.proofs.Common.{◌≡◌, ◌<◌, ◌/◌, ◌&&◌, length, refl, sym, ◌∙◌, ap, subst, arith}
use Rattle.std.specs.Prelude.{slice_get}
use Rattle.std.proofs.lemmas.Option.{slice_get_read}
use Rattle.graph_terms.specs.Graph.{space_at}
use Rattle.flow_order.specs.Bits.{word_bit}
use Rattle.flow_order.specs.SourceParts.{has}
use Rattle.flow_order.specs.Ends.{AreEnds}
use Rattle.flow_order.specs.Uses.{group_for, stands_in}
use Rattle.flow_order.proofs.AskSteps.{or_stays}
use Rattle.flow_order.proofs.EndSteps.{apart_none}
use Rattle.flow_order.proofs.uses.ColumnUses.set_asked.Goals as goal

pub loop-class-preserved-then-are_apart : goal.loop-class-preserved-then-are_apart
loop-class-preserved-then-are_apart c =
    let f = c.args.flow.now in
    let b = c.args.access in
    let items = c.as_slice-class-items.result.now in
    let k = c.loop-class.class-index in
    let x = c.class-item.result in
    let at = slice_get_read items (length items) k x refl c.loop-class-test.true c.class-item.is in
    let own = c.requires.ends k x (ap (λ xs. slice_get xs k) (sym c.loop-class.invariant.items) ∙ at) in
    let other = subst (λ s. AreEnds s c.ends_of-ends.result) c.space.ensures c.ends_of-ends.ensures in
    let none = apart_none c.points_are_listed.ensures (space_at f c.class-item.result.space) (space_at f c.args.access.space) c.class-item.result.ends c.ends_of-ends.result own other (sym c.are_apart.ensures ∙ c.if-are_apart.true) in
    record {
      items = c.loop-class.invariant.items;
      size = c.loop-class.invariant.size;
      bits = λ i. or_stays (λ y. stands_in f c.args.commute b y i) items k x (word_bit c.args.row.now i) (word_bit c.loop-class.row i) at (ap (λ z. z && has (group_for c.args.commute x c.args.access.mode) i) none) (c.loop-class.invariant.bits i);
    }

pub spaces_meet-requires-clause-one : goal.spaces_meet-requires-clause-one
spaces_meet-requires-clause-one c =
    let items = c.as_slice-class-items.result.now in
    let k = c.loop-class.class-index in
    c.requires.spaces k c.class-item.result (ap (λ xs. slice_get xs k) (sym c.loop-class.invariant.items) ∙ slice_get_read items (length items) k c.class-item.result refl c.loop-class-test.true c.class-item.is)

pub set_group-requires : goal.set_group-requires
set_group-requires c = λ i h. (
    let items = c.as_slice-class-items.result.now in
    let k = c.loop-class.class-index in
    let room : i / 64 < length c.args.row.now = c.requires.groups k c.class-item.result i (ap (λ xs. slice_get xs k) (sym c.loop-class.invariant.items) ∙ slice_get_read items (length items) k c.class-item.result refl c.loop-class-test.true c.class-item.is) h in
    let size : length c.loop-class.row ≡ length c.args.row.now = c.loop-class.invariant.size in
    omega arith)
