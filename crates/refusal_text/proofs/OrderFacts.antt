-- Uses of two lines of which the order counts, one after the other.
use Rattle.std.proofs.Common.{◌≡◌, ℕ, ◌+◌, ◌≤◌, Bool, true, false, List, length, take, refl, sym, ◌∙◌, ap}
use Rattle.std.specs.Prelude.{Some, None, Contains, ◌↔◌, IsTrue, slice_get}
use Rattle.std.specs.List.{list_any}
use Rattle.std.proofs.lemmas.Bool.{true≢false}
use Rattle.std.proofs.lemmas.Option.{slice_get_within, get_or_from_slice_get}
use Rattle.basics.proofs.ListFacts.{some_passes, passes_some}
use Rattle.basics.proofs.ListParts.{take_whole, any_more, any_found, got_beyond}
use Rattle.index_spaces.specs.Space.{has_point, points, Meet}
use Rattle.index_spaces.specs.Laws.{PointsAreListed}
use Rattle.graph_terms.specs.declared.verb.Access.{Access}

-- an access that was read is one of the line
pub access_read : (xs : List Access) (k : ℕ) (a : Access) → slice_get xs k ≡ Some a → Contains xs a
access_read xs k a e = (k, slice_get_within xs k a e, get_or_from_slice_get xs k a a e)

-- no access of a line passes a test, which was tried on the first k
pub none_by : (t : Access → Bool) (xs : List Access) (k : ℕ) → length xs ≤ k → list_any t (take k xs) ≡ false → false ≡ list_any t xs
none_by t xs k past none = sym (sym (ap (list_any t) (take_whole xs k past)) ∙ none)

pub none_left : (t : Access → Bool) (xs : List Access) (k : ℕ) → slice_get xs k ≡ None → list_any t (take k xs) ≡ false → false ≡ list_any t xs
none_left t xs k gone none = none_by t xs k (got_beyond xs k gone) none

pub none_more : (t : Access → Bool) (xs : List Access) (k : ℕ) (a : Access) → slice_get xs k ≡ Some a → t a ≡ false → list_any t (take k xs) ≡ false → list_any t (take (k + 1) xs) ≡ false
none_more t xs k a at fails none = any_more t xs k a at none fails

pub one_does : (t : Access → Bool) (xs : List Access) (k : ℕ) (a : Access) → slice_get xs k ≡ Some a → t a ≡ true → true ≡ list_any t xs
one_does t xs k a at passes = sym (any_found t xs k a at passes)

-- whether two spaces share a point
meet_by : PointsAreListed → (s t : List (ℕ × ℕ)) (b a : Bool) → list_any (has_point s) (points t) ≡ a → IsTrue b ↔ Meet s t → b ≡ a
meet_by listed s t true true e w = refl
meet_by listed s t false false e w = refl
meet_by listed s t true false e w = let m = w.0 refl in absurd (true≢false (sym (passes_some (has_point s) (points t) m.0 ((listed t m.0).1 m.2) m.1) ∙ e))
meet_by listed s t false true e w = let m = some_passes (has_point s) (points t) e in absurd (true≢false (sym (w.1 (m.0, m.2, (listed t m.0).0 m.1))))

pub shares_point : PointsAreListed → (s t : List (ℕ × ℕ)) (b : Bool) → IsTrue b ↔ Meet s t → b ≡ list_any (has_point s) (points t)
shares_point listed s t b w = meet_by listed s t b (list_any (has_point s) (points t)) refl w
