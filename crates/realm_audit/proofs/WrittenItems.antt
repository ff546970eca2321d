-- The items of a trace that are still to be written.
use Rattle.std.proofs.Common.{◌≡◌, ℕ, ◌+◌, List, [], ◌∷◌, ◌++◌, drop, sym, ◌∙◌, ap, suc, zero, add-one}
use Rattle.std.specs.Prelude.{Some, slice_get}
use Rattle.std.specs.Option.{option_map_or}
use Rattle.std.proofs.lemmas.Option.{none-some, same_Some}
use Rattle.graph_terms.specs.Graph.{GraphValue}
use Rattle.graph_terms.specs.declared.verb.Line.{Line}
use Rattle.graph_terms.specs.Spelling.{line_name}
use Rattle.realm_audit.specs.Text.{at_text, at_texts}

next_left : (g : GraphValue) (trace : List ℕ) (k i : ℕ) (l : Line) → slice_get trace k ≡ Some i → slice_get g.lines i ≡ Some l →
    at_texts g (drop k trace) ≡ at_text l.name ++ at_texts g (drop (suc k) trace)
next_left g [] k i l e f = absurd (none-some i e)
next_left g (x ∷ xs) zero i l e f =
    let name : line_name g x ≡ l.name = ap (line_name g) (same_Some x i e) ∙ ap (λ o. option_map_or (λ (y : Line). y.name) o []) f in
    ap (λ n. at_text n ++ at_texts g xs) name
next_left g (x ∷ xs) (suc k) i l e f = next_left g xs k i l e f

-- the first item that is left, and the rest
pub items_left : (g : GraphValue) (trace : List ℕ) (k i : ℕ) (l : Line) → slice_get trace k ≡ Some i → slice_get g.lines i ≡ Some l →
    at_texts g (drop k trace) ≡ at_text l.name ++ at_texts g (drop (k + 1) trace)
items_left g trace k i l e f = next_left g trace k i l e f ∙ ap (λ n. at_text l.name ++ at_texts g (drop n trace)) (sym (add-one k))
