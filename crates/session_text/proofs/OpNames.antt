-- The operations that graphs have, found by the names of the same graphs with their links as triggers.
use Rattle.std.proofs.Common.{◌≡◌, ℕ, zero, suc, ◌+◌, ◌<◌, Bool, true, false, ◌||◌, List, [], ◌∷◌, ◌++◌, length, get_or, take, refl, sym, ◌∙◌, ap, arith}
use Rattle.std.specs.Prelude.{bytes_eq, cond, find, Some, None}
use Rattle.std.proofs.lemmas.Bool.{or_parts}
use Rattle.std.specs.List.{list_any}
use Rattle.std.proofs.lemmas.List.{take_more}
use Rattle.std.proofs.lemmas.List.Folds.{list_any-append}
use Rattle.graph_terms.specs.declared.verb.Line.{Line}
use Rattle.graph_terms.specs.Graph.{GraphValue}
use Rattle.word_meanings.specs.WordFaults.{is_line_name}
use Rattle.session_text.specs.declared.entry.Link.{Link}
use Rattle.session_text.specs.declared.entry.Entry.{Entry}
use Rattle.session_text.specs.Fits.{trigger_line, with_trigger, with_triggers, has_op}
use Rattle.session_text.specs.SoFar.{judged_of}

or_false : (b : Bool) → (b || false) ≡ b
or_false true = refl
or_false false = refl

or_true : (b : Bool) → (b || true) ≡ true
or_true true = refl
or_true false = refl

or_more : (a b c : Bool) → ((a || (b || false)) || c) ≡ (a || (b || c))
or_more true b c = refl
or_more false true c = refl
or_more false false c = refl

-- the lines of a graph with triggers are its own and the links
triggered_names : (g : GraphValue) (ls : List Link) (w : List ℕ) → is_line_name (with_triggers g ls) w ≡ (is_line_name g w || list_any (λ (l : Link). bytes_eq l.line w) ls)
triggered_names g [] w = sym (or_false (is_line_name g w))
triggered_names g (l ∷ ls) w =
    triggered_names (with_trigger g l) ls w
    ∙ (ap (λ b. b || list_any (λ (k : Link). bytes_eq k.line w) ls) (list_any-append (λ (x : Line). bytes_eq x.name w) g.lines (trigger_line g l ∷ []))
    ∙ or_more (is_line_name g w) (bytes_eq l.line w) (list_any (λ (k : Link). bytes_eq k.line w) ls))

pub judged_names : (e : Entry) (w : List ℕ) → is_line_name (judged_of e) w ≡ has_op e w
judged_names e w = triggered_names e.graph e.links w

-- one that is there, and one more that is not
module _ {X : Type 0} (f : X → Bool) where
  pub any_at : (xs : List X) (k : ℕ) (x : X) → k < length xs → x ≡ get_or xs k x → f x ≡ true → list_any f xs ≡ true
  any_at [] k x lt at is = absurd (omega (arith, lt))
  any_at (y ∷ ys) zero x lt at is = ap (λ b. b || list_any f ys) (ap f (sym at) ∙ is)
  any_at (y ∷ ys) (suc k) x lt at is = ap (λ b. f y || b) (any_at ys k x (omega (arith, lt)) at is) ∙ or_true (f y)

  pub found_at : (xs : List X) (k : ℕ) (x : X) → k < length xs → x ≡ get_or xs k x → f x ≡ true → list_any f (take k xs) ≡ false → find f xs ≡ Some x
  found_at [] k x lt at is none = absurd (omega (arith, lt))
  found_at (y ∷ xs) zero x lt at is none = ap (λ b. cond b (Some y) (find f xs)) (ap f (sym at) ∙ is) ∙ ap (λ z. Some z) (sym at)
  found_at (y ∷ xs) (suc k) x lt at is none =
      let p = or_parts (f y) (list_any f (take k xs)) none in
      ap (λ b. cond b (Some y) (find f xs)) p.0 ∙ found_at xs k x (omega (arith, lt)) at is p.1

  pub found_none : (xs : List X) → list_any f xs ≡ false → find f xs ≡ None
  found_none [] h = refl
  found_none (y ∷ xs) h = let p = or_parts (f y) (list_any f xs) h in ap (λ b. cond b (Some y) (find f xs)) p.0 ∙ found_none xs p.1

  pub none_more : (xs : List X) (k : ℕ) (x : X) → k < length xs → x ≡ get_or xs k x → f x ≡ false → list_any f (take k xs) ≡ false → list_any f (take (k + 1) xs) ≡ false
  none_more xs k x lt at is none =
      let more : take (k + 1) xs ≡ take k xs ++ x ∷ [] = take_more xs k x lt ∙ ap (λ y. take k xs ++ y ∷ []) (sym at) in
      ap (list_any f) more ∙ (list_any-append f (take k xs) (x ∷ []) ∙ (ap (λ b. b || (f x || false)) none ∙ ap (λ b. b || false) is))
