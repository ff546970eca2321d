-- The lines of a timeline, and the names of its critical chain, that are still to be written.
use Rattle.std.proofs.Common.{◌≡◌, ℕ, ◌+◌, List, [], ◌∷◌, ◌++◌, drop, sym, ◌∙◌, ap, suc, zero, add-one}
use Rattle.std.specs.Prelude.{Option, Some, slice_get}
use Rattle.std.specs.Option.{option_map_or}
use Rattle.std.proofs.lemmas.Option.{none-some, same_Some}
use Rattle.graph_terms.specs.Graph.{GraphValue}
use Rattle.graph_terms.specs.declared.verb.Line.{Line}
use Rattle.graph_terms.specs.Spelling.{line_name}
use Rattle.realm_timeline.specs.declared.slot.Slot.{Slot}
use Rattle.realm_timeline.specs.Plan.{slot_at}
use Rattle.realm_timeline.specs.Text.{op_text, op_texts, name_text, name_texts}

next_name : (g : GraphValue) (chain : List ℕ) (k i : ℕ) (l : Line) → slice_get chain k ≡ Some i → slice_get g.lines i ≡ Some l → name_texts g (drop k chain) ≡ name_text l.name ++ name_texts g (drop (suc k) chain)
next_name g [] k i l e f = absurd (none-some i e)
next_name g (x ∷ xs) zero i l e f =
    let name : line_name g x ≡ l.name = ap (line_name g) (same_Some x i e) ∙ ap (λ o. option_map_or (λ (y : Line). y.name) o []) f in
    ap (λ n. name_text n ++ name_texts g xs) name
next_name g (x ∷ xs) (suc k) i l e f = next_name g xs k i l e f

pub names_left : (g : GraphValue) (chain : List ℕ) (k i : ℕ) (l : Line) → slice_get chain k ≡ Some i → slice_get g.lines i ≡ Some l → name_texts g (drop k chain) ≡ name_text l.name ++ name_texts g (drop (k + 1) chain)
names_left g chain k i l e f = next_name g chain k i l e f ∙ ap (λ n. name_text l.name ++ name_texts g (drop n chain)) (sym (add-one k))

next_op : (plan : List (Option Slot)) (n : ℕ) (lines : List Line) (k : ℕ) (l : Line) → slice_get lines k ≡ Some l → op_texts plan n (drop k lines) ≡ op_text l.name (slot_at plan n) ++ op_texts plan (n + 1) (drop (suc k) lines)
next_op plan n [] k l e = absurd (none-some l e)
next_op plan n (x ∷ xs) zero l e = ap (λ (y : Line). op_text y.name (slot_at plan n) ++ op_texts plan (n + 1) xs) (same_Some x l e)
next_op plan n (x ∷ xs) (suc k) l e = next_op plan n xs k l e

pub ops_left : (plan : List (Option Slot)) (n : ℕ) (lines : List Line) (l : Line) (o : Option Slot) → slice_get lines n ≡ Some l → o ≡ slot_at plan n → op_texts plan n (drop n lines) ≡ op_text l.name o ++ op_texts plan (n + 1) (drop (n + 1) lines)
ops_left plan n lines l o e s = next_op plan n lines n l e
    ∙ (ap (λ x. op_text l.name x ++ op_texts plan (n + 1) (drop (suc n) lines)) (sym s) ∙ ap (λ m. op_text l.name o ++ op_texts plan (n + 1) (drop m lines)) (sym (add-one n)))
