-- Parts that are the same parts after they were used.
use Rattle.std.proofs.Common.{◌≡◌, ◌≢◌, ℕ, ◌^◌, ◌<◌, ◌≤◌, ◌⊎◌, Option, Some, None, IfSome, IfNone, List, length, get_or, set, refl, sym, ap, ◌∙◌, subst, ⊎_elim, arith, length-set, get_or-set_same, get_or-set_other}
use Rattle.std.proofs.lemmas.List.{get_or_default}
use mathlib.Core.Logic.{dite}
use native.Mathlib.Decide.{ℕ_discrete}
use Rattle.home_queues.specs.Hints.{HintsValue, IsSame, AreSame, after_taken, after_empty}

pub same : (h : HintsValue) → IsSame h h
same h = record { deques_are = refl; number = refl; lines = refl }

pub then : (a b c : HintsValue) → IsSame a b → IsSame b c → IsSame a c
then a b c x y = record { deques_are = y.deques_are ∙ x.deques_are; number = y.number ∙ x.number; lines = y.lines ∙ x.lines }

pub same_all : (hs : List HintsValue) → AreSame hs hs
same_all hs = record { len = refl; each = λ k h lt. same (get_or hs k h) }

-- one more part was used
pub same_set : (olds news : List HintsValue) (j : ℕ) (r h : HintsValue) → AreSame olds news → j < length olds → IsSame (get_or news j r) h → AreSame olds (set news j h)
same_set olds news j r h a lt s = record {
  len = omega (arith, length-set {A = HintsValue}, a.len);
  each = λ k d below. dite (ℕ_discrete k j)
      (λ (e : k ≡ j).
      let here : get_or (set news j h) k d ≡ h = ap (λ (i : ℕ). get_or (set news j h) i d) e ∙ get_or-set_same news j h d (omega (arith, a.len)) in
      let was : get_or news j r ≡ get_or news k d = (ap (λ (i : ℕ). get_or news i r) (sym e) ∙ get_or_default news k r d (omega (arith, a.len))) in
      subst (IsSame (get_or olds k d)) (sym here) (then (get_or olds k d) (get_or news k d) h (a.each k d below) (subst (λ x. IsSame x h) was s)))
      (λ (ne : k ≢ j). subst (IsSame (get_or olds k d)) (sym (get_or-set_other news j k h d ne)) (a.each k d below));
}

by_value : (a b c : HintsValue) → b ≡ c → IsSame a c → IsSame a b
by_value a b c e s = subst (IsSame a) (sym e) s

-- `take` leaves the part the same
pub took_same : (o : Option ℕ) (a b : HintsValue) → IfSome o (λ x. (x < a.lines) × ((b ≡ after_taken a x) ⊎ (b ≡ after_taken (after_empty a) x))) → IfNone o (((2 ^ 60 ≤ a.takes) × (b ≡ a)) ⊎ (b ≡ after_empty a)) → IsSame a b
took_same None a b some none = ⊎_elim (λ (x : (2 ^ 60 ≤ a.takes) × (b ≡ a)). by_value a b a x.1 (record { deques_are = refl; number = refl; lines = refl })) (λ (e : b ≡ after_empty a). by_value a b (after_empty a) e (record { deques_are = refl; number = refl; lines = refl })) none
took_same (Some x) a b some none = ⊎_elim (λ (e : b ≡ after_taken a x). by_value a b (after_taken a x) e (record { deques_are = refl; number = refl; lines = refl })) (λ (e : b ≡ after_taken (after_empty a) x). by_value a b (after_taken (after_empty a) x) e (record { deques_are = refl; number = refl; lines = refl })) some.1
