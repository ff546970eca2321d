use Rattle.std.proofs.Common.{◌≡◌, ◌<◌, ◌+◌, ◌/◌, [], length, sym, ◌∙◌, ap, arith, get_or}
use Rattle.std.specs.Prelude.{Some, slice_get, slice_index_or}
use Rattle.std.proofs.lemmas.Option.{slice_get-get_or}
use Rattle.basics.proofs.ListFacts.{got_contains}
use Rattle.flow_order.specs.Bits.{word_bit}
use Rattle.flow_order.proofs.SourceSteps.{reach_after}
use Rattle.flow_order.proofs.sources.reach_all.Goals as goal

pub reach-requires-clause-line : goal.reach-requires-clause-line
reach-requires-clause-line c =
    let items = c.as_slice-line-items.result.now in
    c.requires.part (get_or items c.loop-line.line-index 0) (got_contains c.args.part.now c.loop-line.line-index (get_or items c.loop-line.line-index 0) (ap (λ xs. slice_get xs c.loop-line.line-index) (sym c.loop-line.invariant.items) ∙ slice_get-get_or items c.loop-line.line-index 0 c.loop-line-test.true))

pub reach-requires-clause-line_bit : goal.reach-requires-clause-line_bit
reach-requires-clause-line_bit c =
    let items = c.as_slice-line-items.result.now in
    let below : get_or items c.loop-line.line-index 0 < length c.args.rows.now.rows.items = c.requires.part (get_or items c.loop-line.line-index 0) (got_contains c.args.part.now c.loop-line.line-index (get_or items c.loop-line.line-index 0) (ap (λ xs. slice_get xs c.loop-line.line-index) (sym c.loop-line.invariant.items) ∙ slice_get-get_or items c.loop-line.line-index 0 c.loop-line-test.true)) in
    let size : length c.loop-line.mask ≡ length c.args.rows.now.rows.items / 64 + 1 = c.loop-line.invariant.size ∙ c.requires.size in
    omega arith

pub reach-requires-clause-size : goal.reach-requires-clause-size
reach-requires-clause-size c =
    let items = c.as_slice-line-items.result.now in
    let below : get_or items c.loop-line.line-index 0 < length c.args.rows.now.rows.items = c.requires.part (get_or items c.loop-line.line-index 0) (got_contains c.args.part.now c.loop-line.line-index (get_or items c.loop-line.line-index 0) (ap (λ xs. slice_get xs c.loop-line.line-index) (sym c.loop-line.invariant.items) ∙ slice_get-get_or items c.loop-line.line-index 0 c.loop-line-test.true)) in
    let row : length (slice_index_or c.args.rows.now.rows.items (get_or items c.loop-line.line-index 0) []) ≡ get_or items c.loop-line.line-index 0 / 64 + 1 = c.requires.rows.size (get_or items c.loop-line.line-index 0) below in
    let size : length c.loop-line.mask ≡ length c.args.rows.now.rows.items / 64 + 1 = c.loop-line.invariant.size ∙ c.requires.size in
    omega arith

pub loop-line-preserved : goal.loop-line-preserved
loop-line-preserved c =
    let items = c.as_slice-line-items.result.now in
    let at : slice_get items c.loop-line.line-index ≡ Some (get_or items c.loop-line.line-index 0) = slice_get-get_or items c.loop-line.line-index 0 c.loop-line-test.true in
    let below : get_or items c.loop-line.line-index 0 < length c.args.rows.now.rows.items = c.requires.part (get_or items c.loop-line.line-index 0) (got_contains c.args.part.now c.loop-line.line-index (get_or items c.loop-line.line-index 0) (ap (λ xs. slice_get xs c.loop-line.line-index) (sym c.loop-line.invariant.items) ∙ at)) in
    record {
      items = c.loop-line.invariant.items;
      size = c.reach.ensures.size ∙ c.loop-line.invariant.size;
      bits = λ i. reach_after c.args.flow.now c.args.commute (length c.args.rows.now.rows.items) items c.loop-line.line-index (get_or items c.loop-line.line-index 0) i (word_bit c.args.mask.now i) (word_bit c.loop-line.mask i) (word_bit c.reach.new.mask i)
          (word_bit (slice_index_or c.args.rows.now.rows.items (get_or items c.loop-line.line-index 0) []) i) at (c.reach.ensures.bits i) (c.loop-line.invariant.bits i) (c.requires.rows.bits (get_or items c.loop-line.line-index 0) i below);
    }
