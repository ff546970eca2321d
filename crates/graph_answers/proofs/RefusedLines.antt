-- The line for a text that is refused, where its words are known.
use Rattle.std.proofs.Common.{◌≡◌, ℕ, List, [], ◌∷◌, ◌∙◌, ap}
use Rattle.std.specs.Prelude.{codes, decimal}
use Rattle.graph_terms.specs.Spelling.{spelled, why_word}
use Rattle.graph_terms.specs.declared.why.Why.{Why}
use Rattle.graph_answers.specs.Texts.{unread_text}

-- a line of words, where two of them are known
pub words_are : (digits word : List ℕ) (number : ℕ) (why : Why) → digits ≡ decimal number → word ≡ why_word why → spelled (codes "refused" ∷ codes "line" ∷ digits ∷ word ∷ []) ≡ unread_text number why
words_are digits word number why d w = ap (λ x. spelled (codes "refused" ∷ codes "line" ∷ x ∷ word ∷ [])) d ∙ ap (λ x. spelled (codes "refused" ∷ codes "line" ∷ decimal number ∷ x ∷ [])) w
