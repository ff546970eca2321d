use Rattle.std.proofs.Common.{◌<◌, arith, false, ◌∙◌, sym, ap, subst}
use Rattle.std.specs.Prelude.{slice_set, slice_index}
use lib.ListN.{get_elem?}
use Rattle.std.specs.Slots.{slots_items, slots_filled, slots_counts}
use Rattle.graph_terms.specs.Graph.{GraphValue}
use Rattle.run_state.specs.Run.{stage_at}
use Rattle.share_words.specs.Shares.{AreShares}
use Rattle.word_steps.specs.declared.content.Content.TheVariants.{Issuer}
use Rattle.word_steps.specs.Closing.{IsLeft}
use Rattle.word_parts.specs.Emptying.{IsLineItem}
use Rattle.word_steps.specs.Layout.{size_of, issue_turn_slot, status_word}
use Rattle.word_parts.specs.Preparing.{AreOut}
use Rattle.word_steps.specs.Rule.{handle_at, column_with}
use Rattle.word_parts.proofs.EmptyFacts.{one_content, lies_on, issue_turn_taken, none_filled}
use Rattle.word_parts.proofs.Resuming.{line_item}
use Rattle.word_parts.proofs.opening.abandon.Goals as goal

pub issue_turn_slot-requires : goal.issue_turn_slot-requires
issue_turn_slot-requires c = subst (λ (g : GraphValue). AreShares g c.args.shares.now) (sym c.graph-graph.ensures.graph) c.requires.shares

pub homes_of-homes-requires-clause-shares : goal.homes_of-homes-requires-clause-shares
homes_of-homes-requires-clause-shares c = subst (λ (g : GraphValue). AreShares g c.args.shares.now) (sym c.graph-graph.ensures.graph) c.requires.shares

pub homes_of-homes-requires-clause-out : goal.homes_of-homes-requires-clause-out
homes_of-homes-requires-clause-out c = subst (λ (g : GraphValue). AreOut g c.args.homes) (sym c.graph-graph.ensures.graph) c.requires.out

pub issue_state_of-issue_turn-requires : goal.issue_state_of-issue_turn-requires
issue_state_of-issue_turn-requires c =
    let r = c.close_first-closed in
    let items = slots_items r.result.slots in
    let k = r.ensures.left in
    let l = subst (λ (x : GraphValue). IsLeft x c.args.base.now.events c.args.seat.me.0 k.0 k.1 (slots_items r.result.words) items) (sym c.graph-graph.ensures.graph) k.2 in
    let d = l.issue_turn in
    (d.0, one_content items (issue_turn_slot (size_of c.graph-graph.result.now)) c.take.result (Issuer d.0) (ap (get_elem? items) (sym c.issue_turn_slot.ensures) ∙ c.take.ensures.value) d.1)

pub settle_lines-requires-clause-taken : goal.settle_lines-requires-clause-taken
settle_lines-requires-clause-taken c =
    let r = c.close_first-closed in
    let items = slots_items r.result.slots in
    let k = r.ensures.left in
    let l = subst (λ (x : GraphValue). IsLeft x c.args.base.now.events c.args.seat.me.0 k.0 k.1 (slots_items r.result.words) items) (sym c.graph-graph.ensures.graph) k.2 in
    issue_turn_taken (size_of c.graph-graph.result.now) (slots_filled r.result.slots) (slots_filled c.take.new.self.slots) (λ j near. r.ensures.full.1 j (omega arith) (omega (arith, near, l.deep, (slots_counts r.result.slots).0)))
    (c.take.ensures.others.1 ∙ ap (λ n. slice_set (slots_filled r.result.slots) n false) c.issue_turn_slot.ensures)

pub settle_lines-requires-clause-items : goal.settle_lines-requires-clause-items
settle_lines-requires-clause-items c = λ i x near at.
    let r = c.close_first-closed in
    let items = slots_items r.result.slots in
    let k = r.ensures.left in
    let l = subst (λ (x : GraphValue). IsLeft x c.args.base.now.events c.args.seat.me.0 k.0 k.1 (slots_items r.result.words) items) (sym c.graph-graph.ensures.graph) k.2 in
    let y = l.lines i near in
    subst (IsLineItem c.args.base.now.events) (one_content items i y.0 x y.1 (ap (λ s. get_elem? s i) (sym c.take.ensures.others.0) ∙ at))
    (line_item c.args.base.now.events (handle_at k.1 i) (stage_at k.0.stages i) (slice_index (slots_items r.result.words) (status_word (size_of c.graph-graph.result.now) i)) y.0 y.2)

pub homes_of-homes-requires-clause-items : goal.homes_of-homes-requires-clause-items
homes_of-homes-requires-clause-items c = λ j near.
    let r = c.close_first-closed in
    let g = c.graph-graph.result.now in
    let items = slots_items r.result.slots in
    let k = r.ensures.left in
    let l = subst (λ (x : GraphValue). IsLeft x c.args.base.now.events c.args.seat.me.0 k.0 k.1 (slots_items r.result.words) items) (sym c.graph-graph.ensures.graph) k.2 in
    let x = l.columns j near in
    (column_with g j x.0, lies_on g items (slots_items c.settle_lines.new.closed.slots) j (column_with g j x.0) (c.settle_lines.ensures.same.0 ∙ c.take.ensures.others.0) x.2)

pub free-requires : goal.free-requires
free-requires c = λ k near. none_filled (size_of c.graph-graph.result.now) (slots_filled c.homes_of-homes.new.closed.slots) c.homes_of-homes.ensures.taken k (subst (λ n. k < n) c.homes_of-homes.ensures.deep near)
