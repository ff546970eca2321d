-- The issue state after a handle was created, or none could be.
use Rattle.std.proofs.Common.{◌≡◌, ℕ, ◌≤◌, List, [], ◌∷◌, ◌++◌, length, sym, ◌∙◌, ap, subst, arith, ⊎_elim}
use Rattle.std.specs.Prelude.{◌≢◌, slice_get}
use Rattle.std.specs.Vec.{vec_capacity}
use Rattle.std.proofs.lemmas.List.Elements.{Contains-push_cases}
use Rattle.shared_events.specs.Seats.{HasSeen, Keeps, no_event}
use Rattle.shared_events.specs.Views.{lists, IsAt, IsMakerOf, made_by}
use Rattle.event_table.specs.declared.handle.Handle.{Handle}
use Rattle.shared_events.specs.declared.events.Events.{Events}
use Rattle.word_steps.specs.declared.content.IssueState.{IssueState}
use Rattle.word_steps.specs.Rule.{IsIssueState}

pub issue_state_more : (e : Events) (n : ℕ) (hs : List Handle) (d d' : IssueState) (h : Handle) → IsIssueState e n hs d → IsMakerOf e d'.maker → made_by d'.maker ≡ made_by d.maker ++ h ∷ [] → d'.handles.items ≡ d.handles.items ++ h ∷ [] → vec_capacity d.handles ≤ vec_capacity d'.handles
    → IsAt e d'.seat → Keeps (lists d.seat) (lists d'.seat) → HasSeen (lists d'.seat) h → h ≢ no_event → d'.waiters ≡ d.waiters → IsIssueState e n (hs ++ h ∷ []) d'
issue_state_more e n hs d d' h t maker made listed room seat keeps seen real waiters = record {
  maker = maker;
  made = made ∙ ap (λ l. l ++ h ∷ []) t.made;
  listed = listed ∙ ap (λ l. l ++ h ∷ []) t.listed;
  room = let r = t.room in omega (arith, r, room);
  seat = seat;
  seen = λ k c. ⊎_elim (λ old. keeps.0 k (t.seen k old)) (λ (q : h ≡ k). subst (HasSeen (lists d'.seat)) q seen) (Contains-push_cases hs h k c);
  created = λ k c. ⊎_elim (t.created k) (λ (q : h ≡ k). λ (z : k ≡ no_event). real (q ∙ z)) (Contains-push_cases hs h k c);
  places = ap (λ w. length w.items) waiters ∙ t.places;
  waiters = λ k w g. t.waiters k w (sym (ap (λ v. slice_get v.items k) waiters) ∙ g);
}

pub issue_state_same : (e : Events) (n : ℕ) (hs : List Handle) (d d' : IssueState) → IsIssueState e n hs d → IsMakerOf e d'.maker → made_by d'.maker ≡ made_by d.maker → d'.handles ≡ d.handles → IsAt e d'.seat → Keeps (lists d.seat) (lists d'.seat) → d'.waiters ≡ d.waiters → IsIssueState e n hs d'
issue_state_same e n hs d d' t maker made listed seat keeps waiters = record {
  maker = maker;
  made = made ∙ t.made;
  listed = ap (λ v. v.items) listed ∙ t.listed;
  room = subst (λ v. n ≤ vec_capacity v) (sym listed) t.room;
  seat = seat;
  seen = λ k c. keeps.0 k (t.seen k c);
  created = t.created;
  places = ap (λ w. length w.items) waiters ∙ t.places;
  waiters = λ k w g. t.waiters k w (sym (ap (λ v. slice_get v.items k) waiters) ∙ g);
}
