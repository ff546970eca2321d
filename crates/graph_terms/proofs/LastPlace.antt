-- The last place of a line that passes, in a list that grows at its end.
use Rattle.std.proofs.Common.{◌≡◌, ℕ, suc, ◌+◌, ◌-◌, ◌<◌, Bool, cond, List, [], ◌∷◌, ◌++◌, length, take, get_or, ◌∙◌, ap, arith}
use Rattle.std.specs.Prelude.{Option, Some, None}
use Rattle.std.proofs.lemmas.Bool.{cond-true, cond-false}
use Rattle.std.proofs.lemmas.List.{take_more, length-take-le}
use Rattle.graph_terms.specs.declared.verb.Line.{Line}
use Rattle.graph_terms.specs.declared.verb.Verb.{Verb}
use Rattle.graph_terms.specs.Edges.{last_place}
use Rattle.graph_terms.specs.Laws.{LastPlaceAtEnd, LastPlaceBelowEnd}

pub last_place_push : (test : Verb → Bool) (n : ℕ) (ls : List Line) (l : Line) (found : Option ℕ) → last_place test n (ls ++ l ∷ []) found ≡ cond (test l.verb) (Some (n + length ls)) (last_place test n ls found)
last_place_push test n [] l found = ap (λ k. cond (test l.verb) (Some k) found) (let e : n ≡ n + 0 = omega arith in e)
last_place_push test n (k ∷ ls) l found = last_place_push test (n + 1) ls l (cond (test k.verb) (Some n) found)
    ∙ ap (λ m. cond (test l.verb) (Some m) (last_place test (n + 1) ls (cond (test k.verb) (Some n) found))) (let e : (n + 1) + length ls ≡ n + suc (length ls) = omega arith in e)

last_place_take : (test : Verb → Bool) (ls : List Line) (k : ℕ) (d : Line) → k < length ls → last_place test 0 (take (k + 1) ls) None ≡ cond (test (get_or ls k d).verb) (Some k) (last_place test 0 (take k ls) None)
last_place_take test ls k d h =
    ap (λ xs. last_place test 0 xs None) (take_more ls k d h)
    ∙ (last_place_push test 0 (take k ls) (get_or ls k d) None
    ∙ ap (λ m. cond (test (get_or ls k d).verb) (Some m) (last_place test 0 (take k ls) None)) (let e : length (take k ls) ≡ k = length-take-le k ls (omega arith) in (let f : 0 + length (take k ls) ≡ k = omega arith in f)))

same_take : (ls : List Line) (n : ℕ) → 0 < n → take n ls ≡ take ((n - 1) + 1) ls
same_take ls n h = ap (λ m. take m ls) (let e : n ≡ (n - 1) + 1 = omega arith in e)

-- a step from the end: the line passes, or it does not
pub last_place_here : LastPlaceAtEnd
last_place_here test ls n d h b t =
    ap (λ xs. last_place test 0 xs None) (same_take ls n h) ∙ (last_place_take test ls (n - 1) d (omega arith)
    ∙ cond-true (test (get_or ls (n - 1) d).verb) _ _ t)

pub last_place_below : LastPlaceBelowEnd
last_place_below test ls n d h b t =
    ap (λ xs. last_place test 0 xs None) (same_take ls n h) ∙ (last_place_take test ls (n - 1) d (omega arith)
    ∙ cond-false (test (get_or ls (n - 1) d).verb) _ _ t)
