-- Lines that are written of a trace, where their words are known.
use Rattle.std.proofs.Common.{◌≡◌, ℕ, List, [], ◌∷◌, sym, ◌∙◌, ap}
use Rattle.std.specs.Prelude.{codes, decimal, Some, slice_get}
use Rattle.std.specs.Option.{option_map_or}
use Rattle.graph_terms.specs.Graph.{GraphValue}
use Rattle.graph_terms.specs.declared.verb.Line.{Line}
use Rattle.graph_terms.specs.Spelling.{spelled}
use Rattle.graph_answers.specs.Texts.{trace_refused_text, unlawful_without}

pub missing_is : (g : GraphValue) (j : ℕ) (l : Line) (name : List ℕ) → slice_get g.lines j ≡ Some l → name ≡ l.name → spelled (codes "unlawful" ∷ codes "missing" ∷ name ∷ []) ≡ unlawful_without g j
missing_is g j l name e n = ap (λ x. spelled (codes "unlawful" ∷ codes "missing" ∷ x ∷ [])) (n ∙ sym (ap (λ o. option_map_or (λ (x : Line). x.name) o []) e))

pub refused_is : (digits : List ℕ) (number : ℕ) → digits ≡ decimal number → spelled (codes "refused" ∷ codes "line" ∷ digits ∷ codes "trace" ∷ []) ≡ trace_refused_text number
refused_is digits number e = ap (λ d. spelled (codes "refused" ∷ codes "line" ∷ d ∷ codes "trace" ∷ [])) e
