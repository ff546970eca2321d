use Rattle.std.proofs.Common.{◌≡◌, ℕ, ◌<◌, ◌≤◌, false, length, sym, ◌∙◌, ap, subst, arith}
use Rattle.std.specs.Prelude.{Contains, Some, slice_get, slice_set, slice_index}
use lib.ListN.{get_elem?}
use Rattle.std.specs.Vec.{vec_capacity}
use Rattle.std.specs.Slots.{slots_items, slots_filled, slots_counts, IsFull}
use Rattle.graph_terms.specs.Graph.{GraphValue, verb_at}
use Rattle.word_steps.specs.declared.base.Base.{Base}
use Rattle.word_steps.specs.declared.content.Content.TheVariants.{Issuer}
use Rattle.word_steps.specs.declared.content.IssueState.{IssueState}
use Rattle.word_steps.specs.Closing.{IsLeft}
use Rattle.word_parts.specs.Emptying.{IsLineItem}
use Rattle.word_steps.specs.Layout.{size_of, issue_turn_slot, status_word, value_word}
use Rattle.share_words.specs.Shares.{AreShares}
use Rattle.word_steps.specs.Rule.{handle_at, column_with, IsIssueState}
use Rattle.run_state.specs.Run.{stage_at}
use Rattle.word_parts.proofs.EmptyFacts.{one_content, lies_on, issue_turn_taken, none_filled, issue_state_is}
use Rattle.std.proofs.lemmas.List.{length-map}
use Rattle.event_table.specs.EventMap.{EventMap, life_at, without_waiters}
use Rattle.shared_events.specs.Views.{lists, shape_of}
use Rattle.event_table.specs.declared.handle.Shape.{Shape}
use Rattle.basics.proofs.ListFacts.{contains_none}
use Rattle.run_parts.specs.LineEvents.{last_gen_for}
use Rattle.run_parts.specs.Room.{HasRoom}
use Rattle.run_parts.specs.Shown.{IsShown}
use Rattle.word_parts.specs.Reading.{state_for, value_for}
use Rattle.word_parts.proofs.Resuming.{line_item, shows, none_is_out, none_waits}
use Rattle.word_steps.specs.Table.{graph_of}
use Rattle.word_parts.proofs.closing.leave.Goals as goal

pub issue_turn_slot-requires : goal.issue_turn_slot-requires
issue_turn_slot-requires c =
    let b = c.into_closed-base in
    subst (λ (g : GraphValue). AreShares g b.result.2) (sym (c.graph-graph.ensures.graph ∙ ap (λ (x : Base). x.checked.now.graph) b.ensures.base)) b.ensures.shares

pub homes_of-homes-requires-clause-shares : goal.homes_of-homes-requires-clause-shares
homes_of-homes-requires-clause-shares c =
    let b = c.into_closed-base in
    subst (λ (g : GraphValue). AreShares g b.result.2) (sym (c.graph-graph.ensures.graph ∙ ap (λ (x : Base). x.checked.now.graph) b.ensures.base)) b.ensures.shares

pub issue_state_of-issue_turn-requires : goal.issue_state_of-issue_turn-requires
issue_state_of-issue_turn-requires c =
    let b = c.into_closed-base in
    let items = slots_items b.result.1.slots in
    let k = b.ensures.left in
    let l = subst (λ (x : GraphValue). IsLeft x b.result.0.events c.args.seat.me.0 k.0 k.1 (slots_items b.result.1.words) items) (sym c.graph-graph.ensures.graph)
    (subst (λ (x : Base). IsLeft x.checked.now.graph x.events c.args.seat.me.0 k.0 k.1 (slots_items b.result.1.words) items) (sym b.ensures.base) k.2) in
    let d = l.issue_turn in
    (d.0, one_content items (issue_turn_slot (size_of c.graph-graph.result.now)) c.take.result (Issuer d.0) (ap (get_elem? items) (sym c.issue_turn_slot.ensures) ∙ c.take.ensures.value) d.1)

pub settle_lines-requires-clause-taken : goal.settle_lines-requires-clause-taken
settle_lines-requires-clause-taken c =
    let b = c.into_closed-base in
    let items = slots_items b.result.1.slots in
    let k = b.ensures.left in
    let l = subst (λ (x : GraphValue). IsLeft x b.result.0.events c.args.seat.me.0 k.0 k.1 (slots_items b.result.1.words) items) (sym c.graph-graph.ensures.graph)
    (subst (λ (x : Base). IsLeft x.checked.now.graph x.events c.args.seat.me.0 k.0 k.1 (slots_items b.result.1.words) items) (sym b.ensures.base) k.2) in
    issue_turn_taken (size_of c.graph-graph.result.now) (slots_filled b.result.1.slots) (slots_filled c.take.new.self.slots) (λ j near. b.ensures.full.1 j (omega arith) (omega (arith, near, l.deep, (slots_counts b.result.1.slots).0))) (c.take.ensures.others.1 ∙ ap (λ n. slice_set (slots_filled b.result.1.slots) n false) c.issue_turn_slot.ensures)

pub settle_lines-requires-clause-items : goal.settle_lines-requires-clause-items
settle_lines-requires-clause-items c = λ i x near at.
    let b = c.into_closed-base in
    let items = slots_items b.result.1.slots in
    let k = b.ensures.left in
    let l = subst (λ (x : GraphValue). IsLeft x b.result.0.events c.args.seat.me.0 k.0 k.1 (slots_items b.result.1.words) items) (sym c.graph-graph.ensures.graph)
    (subst (λ (x : Base). IsLeft x.checked.now.graph x.events c.args.seat.me.0 k.0 k.1 (slots_items b.result.1.words) items) (sym b.ensures.base) k.2) in
    let y = l.lines i near in
    subst (IsLineItem b.result.0.events) (one_content items i y.0 x y.1 (ap (λ s. get_elem? s i) (sym c.take.ensures.others.0) ∙ at))
    (line_item b.result.0.events (handle_at k.1 i) (stage_at k.0.stages i) (slice_index (slots_items b.result.1.words) (status_word (size_of c.graph-graph.result.now) i)) y.0 y.2)

pub states_of-states-requires-clause-full : goal.states_of-states-requires-clause-full
states_of-states-requires-clause-full c = subst IsFull (sym (c.settle_lines.ensures.same.1 ∙ c.take.ensures.others.3)) c.into_closed-base.ensures.full.0

pub states_of-states-requires-clause-room : goal.states_of-states-requires-clause-room
states_of-states-requires-clause-room c =
    let b = c.into_closed-base in
    subst (λ (g : GraphValue). length g.lines ≤ vec_capacity c.args.closing_room.states) (sym (c.graph-graph.ensures.graph ∙ ap (λ (x : Base). x.checked.now.graph) b.ensures.base))
    c.requires.room.states

pub values_of-phases-requires-clause-room : goal.values_of-phases-requires-clause-room
values_of-phases-requires-clause-room c =
    let b = c.into_closed-base in
    subst (λ (g : GraphValue). length g.lines ≤ vec_capacity c.args.closing_room.phases) (sym (c.graph-graph.ensures.graph ∙ ap (λ (x : Base). x.checked.now.graph) b.ensures.base))
    c.requires.room.phases

pub values_of-phases-requires-clause-full : goal.values_of-phases-requires-clause-full
values_of-phases-requires-clause-full c = subst IsFull (sym (c.settle_lines.ensures.same.1 ∙ c.take.ensures.others.3)) c.into_closed-base.ensures.full.0

pub homes_of-homes-requires-clause-items : goal.homes_of-homes-requires-clause-items
homes_of-homes-requires-clause-items c = λ j near.
    let b = c.into_closed-base in
    let items = slots_items b.result.1.slots in
    let k = b.ensures.left in
    let l = subst (λ (x : GraphValue). IsLeft x b.result.0.events c.args.seat.me.0 k.0 k.1 (slots_items b.result.1.words) items) (sym c.graph-graph.ensures.graph)
    (subst (λ (x : Base). IsLeft x.checked.now.graph x.events c.args.seat.me.0 k.0 k.1 (slots_items b.result.1.words) items) (sym b.ensures.base) k.2) in
    let x = l.columns j near in
    (column_with c.graph-graph.result.now j x.0, lies_on c.graph-graph.result.now items (slots_items c.settle_lines.new.closed.slots) j (column_with c.graph-graph.result.now j x.0) (c.settle_lines.ensures.same.0 ∙ c.take.ensures.others.0) x.2)

pub into_table-requires-clause-gens : goal.into_table-requires-clause-gens
into_table-requires-clause-gens c =
    let shape = ap (λ (x : Base). (shape_of x.events).last_gen) c.into_closed-base.ensures.base in
    let room : c.args.closing_room.table.last_gen ≡ last_gen_for (length (graph_of c.args.table).lines) = ap (λ (t : EventMap). t.last_gen) c.requires.room.table in
    omega (arith, c.close.ensures.shape.2, shape, c.requires.gens, room)

pub free-requires : goal.free-requires
free-requires c = λ k near. none_filled (size_of c.graph-graph.result.now) (slots_filled c.homes_of-homes.new.closed.slots) c.homes_of-homes.ensures.taken k (subst (λ n. k < n) c.homes_of-homes.ensures.deep near)

pub returns : goal.returns
returns c =
    let b = c.into_closed-base in
    let g = c.graph-graph.result.now in
    let e = b.result.0.events in
    let items = slots_items b.result.1.slots in
    let words = slots_items b.result.1.words in
    let k = b.ensures.left in
    let l : IsLeft g e c.args.seat.me.0 k.0 k.1 words items = subst (λ (x : GraphValue). IsLeft x e c.args.seat.me.0 k.0 k.1 words items) (sym c.graph-graph.ensures.graph)
    (subst (λ (x : Base). IsLeft x.checked.now.graph x.events c.args.seat.me.0 k.0 k.1 words items) (sym b.ensures.base) k.2) in
    let few : length g.lines ≤ 65536 = omega (arith, c.lines.ensures.number, c.lines.ensures.few) in
    let issue_turn = l.issue_turn in
    let same : issue_turn.0 ≡ c.issue_state_of-issue_turn.result = issue_state_is issue_turn.0 c.issue_state_of-issue_turn.result (sym (one_content items (issue_turn_slot (size_of g)) c.take.result (Issuer issue_turn.0) (ap (get_elem? items) (sym c.issue_turn_slot.ensures) ∙ c.take.ensures.value) issue_turn.1) ∙ c.issue_state_of-issue_turn.ensures) in
    let issue_state = subst (λ (d : IssueState). IsIssueState e (length g.lines) k.1 d) (same ∙ sym c.into_state-maker.ensures) issue_turn.2 in
    let own = c.args.table in
    let size : size_of g ≡ size_of own.base.checked.now.graph = ap size_of (c.graph-graph.ensures.graph ∙ ap (λ (x : Base). x.checked.now.graph) b.ensures.base) in
    let graph : g ≡ own.base.checked.now.graph = c.graph-graph.ensures.graph ∙ ap (λ (x : Base). x.checked.now.graph) b.ensures.base in
    let shape = ap (λ (x : Base). shape_of x.events) b.ensures.base in
    let m = c.into_table.result in
    let lost = c.close.ensures in
    let slots_same = c.take.ensures.others.0 in
    let words_same = ap slots_items (c.settle_lines.ensures.same.1 ∙ c.take.ensures.others.3) in
    let width : length m.slots ≡ (shape_of own.base.events).slots = ap (λ (t : EventMap). length t.slots) c.into_table.ensures.map ∙ (length-map c.close.result.slots without_waiters ∙ (lost.shape.0 ∙ ap (λ (s : Shape). s.slots) shape)) in
    let shown = shows g e c.args.seat.me.0 k.0 k.1 words items l few
    m (lists c.settle_lines.new.seat)
    (λ i x near at. c.settle_lines.ensures.settled i x near (ap (λ s. get_elem? s i) slots_same ∙ at))
    (λ h left. c.into_table.ensures.answers h ∙ lost.left h left)
    (λ h f knows. c.into_table.ensures.answers h ∙ lost.known h f knows)
    (λ h has. let a = lost.made h (subst (λ hs. Contains hs h) (sym issue_state.made) has) in (a.0, c.into_table.ensures.answers h ∙ a.1))
    (λ h a at. subst (λ hs. Contains hs h) issue_state.made (lost.only h a (sym (c.into_table.ensures.answers h) ∙ at)))
    (ap (λ (t : EventMap). t.waiters) c.into_table.ensures.map ∙ (lost.shape.1 ∙ (ap (λ (s : Shape). s.waiters) shape ∙ (c.requires.waiters ∙ ap (λ (x : GraphValue). length x.lines) (sym graph)))))
    (ap (λ (t : EventMap). t.last_gen) c.into_table.ensures.map ∙ (ap (λ (t : EventMap). t.last_gen) c.requires.room.table ∙ ap (λ (x : GraphValue). last_gen_for (length x.lines)) (sym graph)))
    (λ i j has. contains_none j (subst (λ ws. Contains ws j) (ap (λ (t : EventMap). (life_at t i).waiting) c.into_table.ensures.map ∙ none_waits c.close.result i) has))
    c.as_slice.result.now (c.as_slice.ensures.value ∙ issue_state.listed) c.states_of-states.result c.states_of-states.ensures.each
    (subst (λ ws. (i : ℕ) → i < length g.lines → slice_get c.states_of-states.result i ≡ Some (state_for ws (size_of g) c.as_slice.result.now i)) words_same c.states_of-states.ensures.states)
    c.values_of-phases.result c.values_of-phases.ensures.each
    (subst (λ ws. (i : ℕ) → i < length g.lines → slice_get c.values_of-phases.result i ≡ Some (value_for (verb_at g i) (slice_index ws (value_word (size_of g) i)))) words_same c.values_of-phases.ensures.values)
    c.homes_of-homes.result c.homes_of-homes.ensures.each
    (λ j x near at. c.homes_of-homes.ensures.home j x near (lies_on g items (slots_items c.settle_lines.new.closed.slots) j x (c.settle_lines.ensures.same.0 ∙ slots_same) at))
    (λ j near. c.into_table.ensures.free j (subst (λ n. j < n) (ap (λ (t : EventMap). t.waiters) c.into_table.ensures.map) near)) in
    let room : HasRoom b.result.0.checked.now.graph c.args.closing_room.room = subst (λ (x : GraphValue). HasRoom x c.args.closing_room.room) (ap (λ (x : Base). x.checked.now.graph) (sym b.ensures.base)) c.requires.room.room in
    let wide : length g.lines ≤ vec_capacity c.into_state-maker.result.handles = issue_state.room in
    record {
      run = k.0;
      handled = k.1;
      shown = subst (λ (x : GraphValue). IsShown x k.0 k.1 c.states_of-states.result m c.homes_of-homes.result c.values_of-phases.result) c.graph-graph.ensures.graph shown;
      room = record {
        stages = room.stages;
        handles = subst (λ (x : GraphValue). length x.lines ≤ vec_capacity c.into_state-maker.result.handles) c.graph-graph.ensures.graph wide;
        busy = room.busy;
        values = room.values;
        holding = room.holding;
        trace = room.trace;
        takers = room.takers;
        held = room.held;
        lent = room.lent;
        ends = room.ends;
        answers = room.answers;
        phases = room.phases;
      };
      graph = ap (λ (x : Base). x.checked.now.graph) b.ensures.base;
      slots = width;
      enough = (let need = ap (λ (x : Base). x.checked.now.need) b.ensures.base in omega (arith, need, width, c.requires.enough));
      most = omega (arith, width, c.requires.most);
      nothing_out = none_is_out g e c.args.seat.me.0 k.0 k.1 words items l few;
      issued = l.known_issued;
      ended = l.known_ended;
      times = l.known_times;
      handles = l.known_handles;
      all_handles = l.all_handles;
      fates = λ h f knows. c.into_table.ensures.answers h ∙ lost.known h f (c.settle_lines.ensures.kept.1 h f (c.join.ensures.kept.0.1 h f knows));
    }
