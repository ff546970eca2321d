-- What is handed out.
use Rattle.std.proofs.Common.{◌≡◌, ℕ, List, subst}
use Rattle.c_answers.specs.Buffers.{Holds, IsCut}

-- what is said of one text, by another that is the same
pub holds : (t u old new : List ℕ) (written : ℕ) → t ≡ u → Holds t old new written → Holds u old new written
holds t u old new written e h = subst (λ x. Holds x old new written) e h

pub cut_is : (t u old new : List ℕ) (written : ℕ) → t ≡ u → IsCut t old new written → IsCut u old new written
cut_is t u old new written e h = subst (λ x. IsCut x old new written) e h
