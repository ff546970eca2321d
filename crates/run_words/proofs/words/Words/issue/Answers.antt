use Rattle.std.proofs.Common.{◌≡◌, arith, ℕ, ◌<◌, ◌++◌, [], ◌∷◌, List, length, refl, ap, sym, subst, append_assoc, ◌∙◌}
use Rattle.std.specs.Prelude.{Contains}
use Rattle.std.proofs.lemmas.List.{append-nil}
use Rattle.std.proofs.lemmas.List.Elements.{Contains-append_left, Contains-append_right}
use Rattle.graph_terms.specs.declared.outcome.End.{End}
use Rattle.basics.proofs.ListFacts.{contains_below, contains_here}
use Rattle.basics.specs.Lists.{numbers_below}
use Rattle.event_table.specs.declared.handle.Handle.{Handle}
use Rattle.word_steps.specs.declared.content.IssueState.{IssueState}
use Rattle.word_steps.specs.Plays.{Sat, with_issue_turn, after_issue}
use Rattle.shared_events.specs.Views.{lists}
use Rattle.run_words.proofs.TakingTurn.{issue_chain}
use Rattle.run_words.proofs.Growing.{grows_same}
use Rattle.run_words.proofs.words.Words.issue.Goals as goal

pub returns-in_default-clause-kept_issued : goal.returns-in_default-clause-kept_issued
returns-in_default-clause-kept_issued c = λ i k. record { known = subst (λ l. Contains l i) (sym (ap (λ (m : Sat). m.0.issued) c.in_default.ensures.none.2)) k.known }

pub returns-in_default-clause-kept_ended : goal.returns-in_default-clause-kept_ended
returns-in_default-clause-kept_ended c = λ i x k. record { known = subst (λ (l : List (ℕ × End)). Contains l (i, x)) (sym (ap (λ (m : Sat). m.0.ended) c.in_default.ensures.none.2)) k.known }

pub returns-clause-kept_issued : goal.returns-clause-kept_issued
returns-clause-kept_issued c = λ i k.
    let n = c.issue_in_turn-answer.ensures.now in
    let all = issue_chain c.args.seat.now.inner.me.0 c.args.seat.now.inner.me.1 c.take_issue_state.new.seat.me c.issue_in_turn-answer.new.seat.me c.give_issue_state.new.seat.me c.in-Some.issue_turn.handles.items c.issue_in_turn-answer.new.issue_turn.handles.items c.in-Some.issue_turn c.issue_in_turn-answer.new.issue_turn n.0 _ c.in-Some.ensures.taken n.1 c.give_issue_state.ensures.given in
    record { known = subst (λ l. Contains l i) (sym (ap (λ (m : Sat). m.0.issued) all)) (Contains-append_left _ n.0 i (Contains-append_left c.args.seat.now.inner.me.0.issued _ i k.known)) }

pub returns-clause-kept_ended : goal.returns-clause-kept_ended
returns-clause-kept_ended c = λ i x k.
    let n = c.issue_in_turn-answer.ensures.now in
    let all = issue_chain c.args.seat.now.inner.me.0 c.args.seat.now.inner.me.1 c.take_issue_state.new.seat.me c.issue_in_turn-answer.new.seat.me c.give_issue_state.new.seat.me c.in-Some.issue_turn.handles.items c.issue_in_turn-answer.new.issue_turn.handles.items c.in-Some.issue_turn c.issue_in_turn-answer.new.issue_turn n.0 _ c.in-Some.ensures.taken n.1 c.give_issue_state.ensures.given in
    record { known = subst (λ (l : List (ℕ × End)). Contains l (i, x)) (sym (ap (λ (m : Sat). m.0.ended) all)) k.known }

pub returns-clause-issued : goal.returns-clause-issued
returns-clause-issued c = λ i is.
    let n = c.issue_in_turn-answer.ensures.now in
    let all = issue_chain c.args.seat.now.inner.me.0 c.args.seat.now.inner.me.1 c.take_issue_state.new.seat.me c.issue_in_turn-answer.new.seat.me c.give_issue_state.new.seat.me c.in-Some.issue_turn.handles.items c.issue_in_turn-answer.new.issue_turn.handles.items c.in-Some.issue_turn c.issue_in_turn-answer.new.issue_turn n.0 _ c.in-Some.ensures.taken n.1 c.give_issue_state.ensures.given in
    let r = c.issue_in_turn-answer.ensures.issued i is in
    let there : Contains (after_issue (with_issue_turn c.args.seat.now.inner.me.0 c.in-Some.issue_turn.handles.items c.in-Some.issue_turn) n.0 c.issue_in_turn-answer.new.issue_turn.handles.items).issued i =
    subst (λ l. Contains l i) (ap (λ (m : Sat). m.0.issued) n.1 ∙ ap (λ (m : Sat). m.0.issued ++ n.0) c.in-Some.ensures.taken) r.0 in
    (record { known = subst (λ l. Contains l i) (sym (ap (λ (m : Sat). m.0.issued) all)) there }, r.1)

pub returns-clause-all : goal.returns-clause-all
returns-clause-all c = λ is i l.
    let eq : c.deref_mut.result.now ≡ c.in-Some.issue_turn = c.deref_mut.ensures.value ∙ c.issue_turn.view_is in
    let n = c.issue_in_turn-answer.ensures.now in
    let all = issue_chain c.args.seat.now.inner.me.0 c.args.seat.now.inner.me.1 c.take_issue_state.new.seat.me c.issue_in_turn-answer.new.seat.me c.give_issue_state.new.seat.me c.in-Some.issue_turn.handles.items c.issue_in_turn-answer.new.issue_turn.handles.items c.in-Some.issue_turn c.issue_in_turn-answer.new.issue_turn n.0 _ c.in-Some.ensures.taken n.1 c.give_issue_state.ensures.given in
    let r = c.issue_in_turn-answer.ensures.all is in
    let low : i < length c.in-Some.issue_turn.handles.items = omega (arith, l, r.0, ap (λ (x : List Handle). length x) r.1, ap (λ (d : IssueState). length d.handles.items) eq) in
    record { known = subst (λ l. Contains l i) (sym (ap (λ (m : Sat). m.0.issued) all)) (Contains-append_left _ n.0 i (Contains-append_right c.args.seat.now.inner.me.0.issued (numbers_below (length c.in-Some.issue_turn.handles.items)) i (contains_below (length c.in-Some.issue_turn.handles.items) i low))) }

pub returns-clause-full : goal.returns-clause-full
returns-clause-full c = λ is.
    let n = c.issue_in_turn-answer.ensures.now in
    let all = issue_chain c.args.seat.now.inner.me.0 c.args.seat.now.inner.me.1 c.take_issue_state.new.seat.me c.issue_in_turn-answer.new.seat.me c.give_issue_state.new.seat.me c.in-Some.issue_turn.handles.items c.issue_in_turn-answer.new.issue_turn.handles.items c.in-Some.issue_turn c.issue_in_turn-answer.new.issue_turn n.0 _ c.in-Some.ensures.taken n.1 c.give_issue_state.ensures.given in
    let hs : List Handle = c.issue_in_turn-answer.new.issue_turn.handles.items in
    (hs, record { known = subst (λ (l : List (List Handle)). Contains l hs) (sym (ap (λ (m : Sat). m.0.named) all)) (Contains-append_right (c.args.seat.now.inner.me.0.named ++ c.in-Some.issue_turn.handles.items ∷ []) (hs ∷ []) hs (contains_here hs [])) }, c.issue_in_turn-answer.ensures.full is)

pub returns-clause-waiters : goal.returns-clause-waiters
returns-clause-waiters c = λ _.
    let eq : c.deref_mut.result.now ≡ c.in-Some.issue_turn = c.deref_mut.ensures.value ∙ c.issue_turn.view_is in
    let n = c.issue_in_turn-answer.ensures.now in
    let all = issue_chain c.args.seat.now.inner.me.0 c.args.seat.now.inner.me.1 c.take_issue_state.new.seat.me c.issue_in_turn-answer.new.seat.me c.give_issue_state.new.seat.me c.in-Some.issue_turn.handles.items c.issue_in_turn-answer.new.issue_turn.handles.items c.in-Some.issue_turn c.issue_in_turn-answer.new.issue_turn n.0 _ c.in-Some.ensures.taken n.1 c.give_issue_state.ensures.given in
    (c.in-Some.issue_turn, c.issue_in_turn-answer.new.issue_turn, ap (λ (m : Sat). m.0.issue_states) all, ap (λ (m : Sat). m.0.laid) all, c.issue_in_turn-answer.ensures.waiters ∙ ap (λ (d : IssueState). d.waiters.items) eq)

pub returns-clause-grown : goal.returns-clause-grown
returns-clause-grown c = λ i is.
    let eq : c.deref_mut.result.now ≡ c.in-Some.issue_turn = c.deref_mut.ensures.value ∙ c.issue_turn.view_is in
    let n = c.issue_in_turn-answer.ensures.now in
    let all = issue_chain c.args.seat.now.inner.me.0 c.args.seat.now.inner.me.1 c.take_issue_state.new.seat.me c.issue_in_turn-answer.new.seat.me c.give_issue_state.new.seat.me c.in-Some.issue_turn.handles.items c.issue_in_turn-answer.new.issue_turn.handles.items c.in-Some.issue_turn c.issue_in_turn-answer.new.issue_turn n.0 _ c.in-Some.ensures.taken n.1 c.give_issue_state.ensures.given in
    let g = c.issue_in_turn-answer.ensures.grown i is in (
      g.1,
      record {
        before = c.in-Some.issue_turn;
        after = c.issue_in_turn-answer.new.issue_turn;
        took = ap (λ (m : Sat). m.0.issue_states) all;
        gave = ap (λ (m : Sat). m.0.laid) all;
        named = ap (λ (m : Sat). m.0.named) all ∙ append_assoc c.args.seat.now.inner.me.0.named _ _;
        issue_state = c.in-Some.ensures.issue_state.0;
        laid = c.issue_in_turn-answer.ensures.issue_state;
        count = ap (λ (d : IssueState). length d.handles.items) (sym eq) ∙ g.0;
        grown = g.2 ∙ ap (λ (d : IssueState). d.handles.items ++ g.1 ∷ []) eq;
      },
    )

pub returns-clause-none_full : goal.returns-clause-none_full
returns-clause-none_full c = λ is.
    let eq : c.deref_mut.result.now ≡ c.in-Some.issue_turn = c.deref_mut.ensures.value ∙ c.issue_turn.view_is in
    let n = c.issue_in_turn-answer.ensures.now in
    let all = issue_chain c.args.seat.now.inner.me.0 c.args.seat.now.inner.me.1 c.take_issue_state.new.seat.me c.issue_in_turn-answer.new.seat.me c.give_issue_state.new.seat.me c.in-Some.issue_turn.handles.items c.issue_in_turn-answer.new.issue_turn.handles.items c.in-Some.issue_turn c.issue_in_turn-answer.new.issue_turn n.0 _ c.in-Some.ensures.taken n.1 c.give_issue_state.ensures.given in (
      length c.in-Some.issue_turn.handles.items,
      record {
        before = c.in-Some.issue_turn;
        after = c.issue_in_turn-answer.new.issue_turn;
        took = ap (λ (m : Sat). m.0.issue_states) all;
        gave = ap (λ (m : Sat). m.0.laid) all;
        named = ap (λ (m : Sat). m.0.named) all ∙ append_assoc c.args.seat.now.inner.me.0.named _ _;
        issue_state = c.in-Some.ensures.issue_state.0;
        laid = c.issue_in_turn-answer.ensures.issue_state;
        count = refl;
        grown = c.issue_in_turn-answer.ensures.same is ∙ (ap (λ (d : IssueState). d.handles.items) eq ∙ sym (append-nil c.in-Some.issue_turn.handles.items));
      },
    )

pub returns-clause-none_left : goal.returns-clause-none_left
returns-clause-none_left c = λ is.
    let eq : c.deref_mut.result.now ≡ c.in-Some.issue_turn = c.deref_mut.ensures.value ∙ c.issue_turn.view_is in
    let n = c.issue_in_turn-answer.ensures.now in
    let all = issue_chain c.args.seat.now.inner.me.0 c.args.seat.now.inner.me.1 c.take_issue_state.new.seat.me c.issue_in_turn-answer.new.seat.me c.give_issue_state.new.seat.me c.in-Some.issue_turn.handles.items c.issue_in_turn-answer.new.issue_turn.handles.items c.in-Some.issue_turn c.issue_in_turn-answer.new.issue_turn n.0 _ c.in-Some.ensures.taken n.1 c.give_issue_state.ensures.given in
    let r = c.issue_in_turn-answer.ensures.all is in
    record {
      before = c.in-Some.issue_turn;
      after = c.issue_in_turn-answer.new.issue_turn;
      took = ap (λ (m : Sat). m.0.issue_states) all;
      gave = ap (λ (m : Sat). m.0.laid) all;
      named = ap (λ (m : Sat). m.0.named) all ∙ append_assoc c.args.seat.now.inner.me.0.named _ _;
      issue_state = c.in-Some.ensures.issue_state.0;
      laid = c.issue_in_turn-answer.ensures.issue_state;
      count = ap (λ (d : IssueState). length d.handles.items) (sym eq) ∙ (ap (λ (x : List Handle). length x) (sym r.1) ∙ r.0);
      grown = r.1 ∙ (ap (λ (d : IssueState). d.handles.items) eq ∙ sym (append-nil c.in-Some.issue_turn.handles.items));
    }

pub returns-in_default-clause-still : goal.returns-in_default-clause-still
returns-in_default-clause-still c = λ _. let m = c.in_default.ensures.none in (m.0, m.1, m.2, refl)

pub returns-clause-still : goal.returns-clause-still
returns-clause-still c = λ is. absurd (c.issue_in_turn-answer.ensures.not_other is)

pub returns-in_default-clause-grows : goal.returns-in_default-clause-grows
returns-in_default-clause-grows c = grows_same (lists c.args.seat.now.events)
