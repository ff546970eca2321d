-- A space or a line of a number is what its name stands for.
use Rattle.std.proofs.Common.{◌≡◌, ℕ, Bool, true, false, List, refl, sym, ◌∙◌, ap, subst}
use Rattle.std.specs.Prelude.{Option, Some, None, is_some, unwrap_or, position, bytes_eq, slice_get, option_map}
use Rattle.std.proofs.lemmas.Bool.{true≢false}
use Rattle.std.proofs.lemmas.Option.{none-some, same_Some}
use Rattle.basics.proofs.TestedLists.{position_any, same_bytes}
use Rattle.graph_terms.specs.declared.verb.Line.{Line}
use Rattle.graph_terms.specs.Graph.{GraphValue, named_spaces}
use Rattle.graph_terms.specs.Fits.{repeats, IsGraph}
use Rattle.word_meanings.proofs.GraphNames.{is_named, read_name, listed_name, spaces_apart, lines_apart}

some_of : (o : Option ℕ) (n : ℕ) → is_some o ≡ true → unwrap_or o 0 ≡ n → o ≡ Some n
some_of None n h e = absurd (true≢false (sym h))
some_of (Some m) n h e = ap Some e

position_at : {X : Type 0} (key : X → List ℕ) (xs : List X) (n : ℕ) (x : X) (w : List ℕ) → repeats (λ a b. bytes_eq (key a) (key b)) xs ≡ false → slice_get xs n ≡ Some x → bytes_eq (key x) w ≡ true →
    position (λ y. bytes_eq (key y) w) xs ≡ Some n
position_at key xs n x w apart at same =
    subst (λ v. position (λ y. bytes_eq (key y) v) xs ≡ Some n) (same_bytes (key x) w same)
    (some_of (position (λ y. bytes_eq (key y) (key x)) xs) n (sym (position_any (λ y. bytes_eq (key y) (key x)) xs) ∙ listed_name key xs n x at) (read_name key xs n x apart at))

space_by : (g : GraphValue) (s : ℕ) (name w : List ℕ) (o : Option (List ℕ × List (ℕ × ℕ))) → IsGraph g → slice_get (named_spaces g) s ≡ o → option_map (λ (x : List ℕ × List (ℕ × ℕ)). x.0) o ≡ Some name → bytes_eq name w ≡ true →
    position (λ (x : List ℕ × List (ℕ × ℕ)). bytes_eq x.0 w) (named_spaces g) ≡ Some s
space_by g s name w None graph at named same = absurd (none-some name named)
space_by g s name w (Some x) graph at named same =
    position_at (λ (y : List ℕ × List (ℕ × ℕ)). y.0) (named_spaces g) s x w (spaces_apart g (is_named g graph)) at (ap (λ n. bytes_eq n w) (same_Some x.0 name named) ∙ same)

pub space_numbered : (g : GraphValue) (s : ℕ) (name w : List ℕ) → IsGraph g → option_map (λ (x : List ℕ × List (ℕ × ℕ)). x.0) (slice_get (named_spaces g) s) ≡ Some name → bytes_eq name w ≡ true →
    position (λ (x : List ℕ × List (ℕ × ℕ)). bytes_eq x.0 w) (named_spaces g) ≡ Some s
space_numbered g s name w graph named same = space_by g s name w (slice_get (named_spaces g) s) graph refl named same

pub line_numbered : (g : GraphValue) (i : ℕ) (l : Line) (w : List ℕ) → IsGraph g → slice_get g.lines i ≡ Some l → bytes_eq l.name w ≡ true → position (λ (x : Line). bytes_eq x.name w) g.lines ≡ Some i
line_numbered g i l w graph at same = position_at (λ (x : Line). x.name) g.lines i l w (lines_apart g (is_named g graph)) at same
