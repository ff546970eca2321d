use Rattle.std.proofs.Common.{arith, inl, inr, ◌<◌, ◌∙◌, sym, ap, subst, length}
use lib.ListN.{get_elem?}
use Rattle.std.specs.Slots.{slots_items, slots_filled}
use Rattle.std.proofs.lemmas.Bool.{cases_eq}
use Rattle.shared_events.specs.Views.{lists}
use Rattle.word_steps.specs.Layout.{size_of}
use Rattle.word_parts.specs.Emptying.{IsSettled}
use Rattle.word_parts.proofs.EmptyFacts.{line_taken, still_settled, one_content}
use Rattle.word_parts.proofs.closed_slots.settle_lines.Goals as goal

pub loop-line-preserved : goal.loop-line-preserved
loop-line-preserved c =
    let i = c.loop-line.invariant in
    let o = c.take.ensures.others in
    let near : c.loop-line.line < length c.args.graph.now.lines = omega (arith, c.loop-line-test.true, c.lines-line-end.ensures.number) in
    record {
      at = c.settle.ensures.at;
      kept = (λ h k. c.settle.ensures.kept.0 h (i.kept.0 h k), λ h f k. c.settle.ensures.kept.1 h f (i.kept.1 h f k));
      deep = o.2 ∙ i.deep;
      taken = line_taken (size_of c.args.graph.now) c.loop-line.line 0 0 (slots_filled c.loop-line.closed.slots) (slots_filled c.take.new.self.slots) near o.1 i.taken;
      same = (o.0 ∙ i.same.0, o.3 ∙ i.same.1);
      settled = λ k x low at. elim (cases_eq k c.loop-line.line) [
        | inl same ↦ subst (IsSettled (lists c.settle.new.seat)) (one_content (slots_items c.args.closed.now.slots) c.loop-line.line c.take.result x (ap (λ s. get_elem? s c.loop-line.line) (sym i.same.0) ∙ c.take.ensures.value) (ap (get_elem? (slots_items c.args.closed.now.slots)) (sym same) ∙ at)) c.settle.ensures.settled
        | inr other ↦ still_settled (lists c.loop-line.seat) (lists c.settle.new.seat) c.settle.ensures.kept c.settle.ensures.still x (i.settled k x (omega (arith, low, other)) at)
      ];
    }
