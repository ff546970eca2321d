-- The answers of a loop that looks for one.
use Rattle.std.proofs.Common.{◌≡◌, true, false, refl, sym}
use Rattle.std.specs.Prelude.{◌↔◌, IsTrue}
use Rattle.std.proofs.lemmas.Bool.{true≢false}

pub answer_no : (Q : Type 0) → (Q → ⊥) → IsTrue false ↔ Q
answer_no Q none = ((λ h. absurd (true≢false (sym h))), (λ q. absurd (none q)))

pub answer_yes : (Q : Type 0) → Q → IsTrue true ↔ Q
answer_yes Q q = ((λ h. q), (λ k. refl))
