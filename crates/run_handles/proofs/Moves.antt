-- What stays the work of a line from one core to another stays so from what they are equal to.
use Rattle.std.proofs.Common.{◌≡◌, ℕ, subst}
use Rattle.run_core.specs.Core.{CoreValue}
use Rattle.run_core.specs.Works.{KeepsWork}

pub keeps_between : (a x y b : CoreValue) (k : ℕ) → x ≡ a → y ≡ b → KeepsWork x y k → KeepsWork a b k
keeps_between a x y b k e f w = subst (λ (v : CoreValue). KeepsWork v b k) e (subst (λ (v : CoreValue). KeepsWork x v k) f w)
