-- Which arrival has a value for a phase.
use Rattle.std.proofs.Common.{◌≡◌, ℕ, Bool, true, false, refl, ◌∙◌, ap, cond}
use Rattle.std.specs.Prelude.{Some, None, ◌==◌}
use Rattle.std.proofs.lemmas.Bool.{eqb-true}
use Rattle.graph_terms.specs.declared.verb.Verb.{Verb}
use Rattle.graph_terms.specs.declared.verb.Verb.TheVariants.{Arrive}
use Rattle.std.proofs.lemmas.Option.{none-some, same_Some}
use Rattle.graph_meaning.specs.Evaluation.{arrival_value}

pub arrival_is : (p : ℕ) (v : Verb) (n : ℕ) → arrival_value p v ≡ Some n → (w : ℕ) × (v ≡ Arrive p n w)
arrival_is p (Arrive k m w) n h = (w, arrival_cases k p m n (k == p) refl h)
  where
    arrival_cases : (k p m n : ℕ) (b : Bool) → (k == p) ≡ b → cond b (Some m) None ≡ Some n → Arrive k m w ≡ Arrive p n w
    arrival_cases k p m n true e h = ap (λ z. Arrive z m w) (eqb-true k p e) ∙ ap (λ z. Arrive p z w) (same_Some m n h)
    arrival_cases k p m n false e h = absurd (none-some n h)
arrival_is p v n h = absurd (none-some n h)
