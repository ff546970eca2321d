-- Whether two spaces meet.
use Rattle.std.proofs.Common.{◌≡◌, ℕ, Bool, true, false, List, refl, sym}
use Rattle.std.specs.Prelude.{◌↔◌, IsTrue}
use Rattle.std.specs.List.{list_any}
use Rattle.std.proofs.lemmas.Bool.{true≢false, false_from_ne_true}
use Rattle.index_spaces.specs.Space.{has_point, points, Meet}
use Rattle.index_spaces.specs.Laws.{PointsAreListed}
use Rattle.basics.proofs.ListFacts.{some_passes, passes_some}

true_is : (b : Bool) → b ≡ true → IsTrue b
true_is true e = refl
true_is false e = absurd (true≢false (sym e))

is_true : (b : Bool) → IsTrue b → b ≡ true
is_true true h = refl
is_true false h = h

-- whether two spaces meet, by the points of one
pub meets_by : PointsAreListed → (s t : List (ℕ × ℕ)) (b : Bool) → IsTrue b ↔ Meet s t → b ≡ list_any (has_point s) (points t)
meets_by listed s t true h =
    let p = h.0 refl in
    sym (passes_some (has_point s) (points t) p.0 ((listed t p.0).1 p.2) (is_true (has_point s p.0) p.1))
meets_by listed s t false h = sym (false_from_ne_true (list_any (has_point s) (points t)) (λ e.
    let x = some_passes (has_point s) (points t) e in
    true≢false (sym (is_true false (h.1 (x.0, true_is (has_point s x.0) x.2, (listed t x.0).0 x.1))))))
