-- What `see` tells: a load by a seat that has the right to end the handle.
use Rattle.std.proofs.Common.{◌≡◌, ℕ, ◌+◌, ◌*◌, List, [], ◌∷◌, ◌++◌, sym, ap, ◌∙◌, subst, arith, append-nil}
use Rattle.std.specs.Prelude.{Contains}
use Rattle.std.proofs.lemmas.List.Elements.{Contains-append_left}
use Rattle.event_table.specs.declared.handle.Handle.{Handle}
use Rattle.event_table.specs.declared.handle.Fate.{Fate}
use Rattle.event_table.specs.Words.{turns_of}
use Rattle.shared_events.specs.Plays.{Sat, first_of, looked, joined, granted, granter}
use Rattle.shared_events.specs.Seats.{IsPlain, IsPending, Knows, IsPast, FoundPending}
use Rattle.basics.proofs.ListFacts.{contains_here}

-- the seat v has looked, as w, with the right that a Pending's seat had
pub record Sees (h : Handle) (v w : Sat) : Type 0 where
  pub found : FoundPending v.0 w.0 h
  pub unknown : (f : Fate) → Knows w.0 h f → ⊥
  pub not_past : IsPast v.0 h → ⊥
  pub unleft : Contains w.0.left h → ⊥

pub sees : (v p g m n w : Sat) (h : Handle) (i r : ℕ) → IsPlain v → IsPending p h → i ≡ h.slot → g ≡ (granted p.0, []) → m ≡ (joined v.0 g.0, v.1) → looked i m r n → w ≡ (granter n.0, n.1) → Sees h v w
sees v p g m n w h i r plain pending at g-is m-is t w-is =
    let g-lists = ap (λ (y : Sat). y.0) g-is in
    let m-lists = ap (λ (y : Sat). y.0) m-is in
    let n-lists = ap (λ (y : Sat). y.0) t.0 in
    let w-lists = ap (λ (y : Sat). y.0) w-is in
    let rights : m.0.rights ≡ h ∷ [] = ap (λ l. l.rights) m-lists ∙ (λ z. plain.0.2 z ++ (ap (λ l. l.rights) g-lists ∙ ap (λ (l : List Handle). first_of l) pending.0.2) z) in
    let has : Contains m.0.rights h = subst (λ l. Contains l h) (sym rights) (contains_here h []) in
    let odd : turns_of r ≡ 2 * h.gen_ + 1 = t.1.3 h has (sym at) in
    let saw : m.0.saw ≡ v.0.saw = ap (λ l. l.saw) m-lists ∙ (ap (λ l. v.0.saw ++ l.saw) g-lists ∙ append-nil v.0.saw) in
    record {
      found = (r, ap (λ l. l.saw) w-lists ∙ (ap (λ l. l.saw) n-lists ∙ (ap (λ l. l ++ (i, r) ∷ []) saw ∙ ap (λ (j : ℕ). v.0.saw ++ (j, r) ∷ []) at)), odd);
      unknown = λ f k. let a = t.1.1 h f (subst (λ l. Contains l (h, f)) (ap (λ l. l.known) w-lists ∙ ap (λ l. l.known) n-lists) k.known) (sym at) in omega arith;
      not_past = λ k. let a = t.1.2 h (subst (λ l. Contains l h) (sym (ap (λ l. l.past) m-lists)) (Contains-append_left v.0.past g.0.past h k)) (sym at) in omega arith;
      unleft = λ k. t.4 h (subst (λ l. Contains l h) (ap (λ l. l.left) w-lists ∙ ap (λ l. l.left) n-lists) k) has;
    }
