use Rattle.std.proofs.Common.{◌≡◌, ◌<◌, ◌/◌, length, sym, ◌∙◌, ap, arith, get_or}
use Rattle.std.specs.Prelude.{Some, slice_get, ◌==◌}
use Rattle.std.proofs.lemmas.Option.{slice_get-get_or}
use Rattle.basics.proofs.ListFacts.{got_contains}
use Rattle.flow_order.specs.Bits.{word_bit}
use Rattle.flow_order.proofs.AskSteps.{or_more}
use Rattle.flow_order.proofs.asked.set_all.Goals as goal

pub set-requires : goal.set-requires
set-requires c =
    let items = c.as_slice-line-items.result.now in
    let room : get_or items c.loop-line.line-index 0 / 64 < length c.args.row.now = c.requires (get_or items c.loop-line.line-index 0) (got_contains c.args.lines.now c.loop-line.line-index (get_or items c.loop-line.line-index 0) (ap (λ xs. slice_get xs c.loop-line.line-index) (sym c.loop-line.invariant.items) ∙ slice_get-get_or items c.loop-line.line-index 0 c.loop-line-test.true)) in
    let size : length c.loop-line.row ≡ length c.args.row.now = c.loop-line.invariant.size in
    omega arith

pub loop-line-preserved : goal.loop-line-preserved
loop-line-preserved c =
    let items = c.as_slice-line-items.result.now in
    let at : slice_get items c.loop-line.line-index ≡ Some (get_or items c.loop-line.line-index 0) = slice_get-get_or items c.loop-line.line-index 0 c.loop-line-test.true in
    record {
      items = c.loop-line.invariant.items;
      size = c.set.ensures.size ∙ c.loop-line.invariant.size;
      bits = λ i. or_more (λ k. k == i) items c.loop-line.line-index (get_or items c.loop-line.line-index 0) (word_bit c.args.row.now i) (word_bit c.loop-line.row i) (word_bit c.set.new.self i) at (c.set.ensures.bits i) (c.loop-line.invariant.bits i);
    }
