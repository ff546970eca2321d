-- What a slot's word shows.
use Rattle.std.proofs.Common.{◌≡◌, ℕ, ◌+◌, ◌*◌, ◌/◌, ◌%◌, [], ◌∷◌, sym, refl, subst, arith, cond, eqb, eq-eqb, ne_eqb, Bool, false}
use mathlib.Core.Logic.{dite}
use native.Mathlib.Decide.{ℕ_discrete}
use Rattle.event_table.specs.Words.{turns_of}
use Rattle.event_table.specs.Laws.{ChainBelowWaiters, TurnsByChainCode, TurnsAreShown}

-- the chain's head is the number of a waiter
pub code_le : ChainBelowWaiters
code_le key ws [] l = omega arith
code_le key ws (k ∷ ks) l = let a = l.0 in omega arith

pub turns_if : TurnsByChainCode
turns_if w t a b c =
    let low : ℕ = w % 4294967296 in
    let P : Bool → Bool → Type 0 = λ x y. 2 * (w / 4294967296) + cond x 0 (cond y 2 1) ≡ t in
    dite (ℕ_discrete low 0) (λ e. let a' = a e in subst (λ x. P x (eqb low 4294967295)) (sym (eq-eqb low 0 e)) (omega arith))
    (λ ne. subst (λ x. P x (eqb low 4294967295)) (sym (ne_eqb low 0 ne))
    (dite (ℕ_discrete low 4294967295) (λ e. let b' = b e in subst (λ y. P false y) (sym (eq-eqb low 4294967295 e)) (omega arith))
    (λ ne'. let c' = c (omega arith) (omega arith) in subst (λ y. P false y) (sym (ne_eqb low 4294967295 ne')) (omega arith))))

pub turns_shown : TurnsAreShown
turns_shown last t c w s low =
    let few = s.few in
    dite (ℕ_discrete (t % 2) 1) (λ odd. let e = s.pending odd in turns_if w t (λ z. absurd (omega arith)) (λ z. absurd (omega arith)) (λ z₁ z₂. omega arith))
    (λ even. let ev : t % 2 ≡ 0 = omega arith in
    dite (ℕ_discrete t (2 * last + 2)) (λ e. let r = s.retired e in turns_if w t (λ z. absurd (omega arith)) (λ z. omega arith) (λ z₁ z₂. absurd (omega arith)))
    (λ ne. let r = s.free ev (omega arith) in turns_if w t (λ z. omega arith) (λ z. absurd (omega arith)) (λ z₁ z₂. absurd (omega arith))))

pub odd_turns : (w : ℕ) → turns_of w % 2 ≡ 1 → turns_of w ≡ 2 * (w / 4294967296) + 1
odd_turns w e = dite (ℕ_discrete (w % 4294967296) 0)
    (λ z. let t : turns_of w ≡ 2 * (w / 4294967296) = turns_if w (2 * (w / 4294967296)) (λ _. refl) (λ y. absurd (omega arith)) (λ y₁ y₂. absurd (omega arith)) in absurd (omega arith))
    (λ n. dite (ℕ_discrete (w % 4294967296) 4294967295)
    (λ z. let t : turns_of w ≡ 2 * (w / 4294967296) + 2 = turns_if w (2 * (w / 4294967296) + 2) (λ y. absurd (omega arith)) (λ _. refl) (λ y₁ y₂. absurd (omega arith)) in absurd (omega arith))
    (λ m. turns_if w (2 * (w / 4294967296) + 1) (λ y. absurd (n y)) (λ y. absurd (m y)) (λ _ _. refl)))
