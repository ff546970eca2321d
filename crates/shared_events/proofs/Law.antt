-- The laws.
use Rattle.std.proofs.Common.{◌≡◌, ℕ, zero, suc, ◌<◌, ◌≤◌, refl, ap, ◌∙◌, arith, cond, Bool, eq-eqb, ne_eqb}
use mathlib.Core.Logic.{dite}
use native.Mathlib.Decide.{ℕ_discrete}
use Rattle.basics.specs.Sums.{below, only}
use Rattle.shared_events.specs.Laws.{OnePlace, PendingWhileHeld}
use Rattle.shared_events.proofs.Steps.{shown, made_in}

below_has : (k n : ℕ) → (k < n → below (only k) n ≡ 1) × (n ≤ k → below (only k) n ≡ 0)
below_has k zero = ((λ l. absurd (omega arith)), λ _. refl)
below_has k (suc n) = let before = below_has k n in dite (ℕ_discrete n k)
    (λ e. let one : only k n ≡ 1 = ap {B = ℕ} (λ (b : Bool). cond b 1 0) (eq-eqb n k e) in let z = before.1 (omega arith) in ((λ l. omega arith), λ l. absurd (omega arith)))
    (λ ne. let none : only k n ≡ 0 = ap {B = ℕ} (λ (b : Bool). cond b 1 0) (ne_eqb n k ne) in ((λ l. let y = before.0 (omega arith) in omega arith), λ l. let y = before.1 (omega arith) in omega arith))

pub one_place_law : OnePlace
one_place_law key s o k l = o.once (only k) ∙ (below_has k key.waiters).0 l

pub pending_law : PendingWhileHeld
pending_law key s o j v h at c = let p = (o.each_view j v at).rights h c in shown key s o h.slot (made_in key s o h (omega arith)) ∙ p
