use Rattle.std.proofs.Common.{rules, arith, inr, ◌≡◌, List, [], ◌∷◌, ◌++◌, length, ap, sym, subst, ◌∙◌, refl}
use Rattle.std.specs.Prelude.{Contains}
use Rattle.event_table.specs.declared.handle.Handle.{Handle}
use Rattle.std.proofs.lemmas.List.Elements.{Contains-append_right}
use Rattle.shared_events.specs.Seats.{HasSeen}
use Rattle.shared_events.specs.Views.{handle_of, made_by, lists, shape_of, IsFull, GoesRound}
use Rattle.basics.proofs.ListFacts.{contains_here}
use Rattle.run_words.specs.Words.{graph_of, events_of}
use Rattle.word_steps.specs.declared.content.IssueState.{IssueState}
use Rattle.word_steps.specs.Rule.{IsIssueState}
use Rattle.run_words.proofs.PendingSlots.{all_pending}
use Rattle.run_words.proofs.IssueStates.{issue_state_more, issue_state_same}
use Rattle.run_words.proofs.words.Words.issue_next.Goals as goal

pub put_in-requires-clause-top : goal.put_in-requires-clause-top
put_in-requires-clause-top c = (c.args.seat.now.me.1, ap (λ m. m.1) c.begin_issue.ensures.begun)

pub store_issue-requires-clause-may : goal.store_issue-requires-clause-may
store_issue-requires-clause-may c =
    let s = c.in-Some.ensures.some in
    let p = c.see.ensures.pending in (
      c.args.issue_turn.now.handles.items,
      ap (λ v. v.issue_turn) c.put_in.ensures.view ∙ (ap (λ m. m.0.issue_turn) c.begin_issue.ensures.begun ∙ c.requires.turn),
      c.requires.next,
      (c.see.new.pending, (c.args.seat.now.me.1, c.put_in.ensures.hand _ (ap (λ m. m.1) c.begin_issue.ensures.begun)), p.0, λ k. s.1.1 (subst (λ (l : List Handle). Contains l (handle_of c.in-Some.pending)) (sym c.requires.issue_state.made) (subst (λ (h : Handle). Contains c.args.issue_turn.now.handles.items h) p.1 k))),
    )

pub give_up_issue-requires-clause-may : goal.give_up_issue-requires-clause-may
give_up_issue-requires-clause-may c = (c.args.issue_turn.now.handles.items, ap (λ m. m.0.issue_turn) c.begin_issue.ensures.begun ∙ c.requires.turn, (c.args.seat.now.me.1, ap (λ m. m.1) c.begin_issue.ensures.begun))

pub returns-in-Some-clause-issue_state : goal.returns-in-Some-clause-issue_state
returns-in-Some-clause-issue_state c =
    let s = c.in-Some.ensures.some in
    let d = c.in-Some.ensures in
    let h : Handle = handle_of c.see.new.pending in
    let same : h ≡ handle_of c.in-Some.pending = c.see.ensures.pending.1 in
    let items = c.push_within.ensures.items ∙ ap (λ (h : Handle). c.args.issue_turn.now.handles.items ++ h ∷ []) c.handle.ensures in
    let d' : IssueState = record { maker = c.create.new.maker; handles = c.push_within.new.handles; seat = c.see.new.seat; waiters = c.args.issue_turn.now.waiters } in
    let made = s.1.0 ∙ ap (λ (h : Handle). made_by c.args.issue_turn.now.maker ++ h ∷ []) (sym same) in
    let seen : HasSeen (lists c.see.new.seat) h = record { seen = inr (subst (λ (l : List Handle). Contains l h) (sym c.see.ensures.more_seen) (Contains-append_right (lists c.args.issue_turn.now.seat).seen _ h (subst (λ (k : Handle). Contains (c.see.result ∷ []) k) (c.see.ensures.handle ∙ sym same) (contains_here c.see.result [])))) } in
    subst (λ (l : List Handle). IsIssueState (events_of c.args.self.now) (length (graph_of c.args.self.now).lines) l d') (sym items)
    (issue_state_more (events_of c.args.self.now) (length (graph_of c.args.self.now).lines) c.args.issue_turn.now.handles.items c.args.issue_turn.now d' h c.requires.issue_state d.maker made items c.push_within.ensures.capacity c.see.ensures.at c.see.ensures.kept seen (λ z. s.3 (sym same ∙ z)) refl)

pub returns-in-None-clause-issue_state : goal.returns-in-None-clause-issue_state
returns-in-None-clause-issue_state c = let d = c.in-None.ensures in issue_state_same _ _ c.args.issue_turn.now.handles.items c.args.issue_turn.now _ c.requires.issue_state d.maker d.none refl c.requires.issue_state.seat (λ h k. k, λ h f k. k) refl

pub returns-in-None-clause-full : goal.returns-in-None-clause-full
returns-in-None-clause-full c = λ _. let own = c.args.self.now in (
  refl,
  search rules,
  all_pending (shape_of (events_of own)) c.create.new.maker.next (length (graph_of own).lines) c.args.issue_turn.now.handles.items
      (subst (GoesRound (shape_of (events_of own)).slots c.create.new.maker.next) (c.in-None.ensures.none ∙ c.requires.issue_state.made) c.in-None.ensures.maker.2) (omega (arith, c.requires.next, c.requires.line)) own.shaped.1
      (lists c.args.events.now) (lists c.create.new.seat) (subst (λ (l : List Handle). IsFull (shape_of (events_of own)) l (lists c.args.events.now) (lists c.create.new.seat)) c.requires.issue_state.made c.in-None.ensures.full),
)
