-- The points of spaces, and the spaces of a graph.
use Rattle.std.proofs.Common.{◌≡◌, ℕ, ◌<◌, ◌≤◌, true, inl, inr, List, [], ◌∷◌, length, subst, arith}
use Rattle.std.specs.Prelude.{nat_le, Option, slice_get}
use Rattle.std.specs.Option.{option_map_or}
use Rattle.std.specs.List.{list_any}
use Rattle.std.proofs.lemmas.Bool.{false≢true, and_from, or_left, le-leb, cases_lt}
use Rattle.std.proofs.lemmas.Option.{slice_get_past}
use Rattle.std.proofs.lemmas.List.Elements.{Contains-get_or}
use Rattle.index_spaces.specs.Space.{interval_has, has_point, points, point_at, IsSpace}
use Rattle.index_spaces.proofs.Public.{points_are_listed}
use Rattle.graph_terms.specs.Graph.{GraphValue, named_spaces, space_at}

-- a space that is one has a point
pub some_point : (s : List (ℕ × ℕ)) → IsSpace s → (p : ℕ) × (has_point s p ≡ true)
some_point [] is = (let h : 0 < 0 = is.0 in absurd (omega arith))
some_point (i ∷ rest) is = (i.0, or_left (interval_has i i.0) (list_any (λ j. interval_has j i.0) rest) (and_from (nat_le i.0 i.0) (nat_le i.0 i.1) (le-leb i.0 i.0 (omega arith)) (le-leb i.0 i.1 is.1.1)))

pub first_point : (s : List (ℕ × ℕ)) → IsSpace s → has_point s (point_at s 0) ≡ true
first_point s is =
    let p = some_point s is in
    let k = (points_are_listed s p.0).1 p.1 in
    let some : k.0 < length (points s) = k.1 in
    (points_are_listed s (point_at s 0)).0 (Contains-get_or (points s) 0 0 (omega arith))

-- IN A GRAPH
-- a space with a point is declared
pub declared_by : (g : GraphValue) (s p : ℕ) → has_point (space_at g s) p ≡ true → s < length (named_spaces g)
declared_by g s p h = elim (cases_lt s (length (named_spaces g))) [
  | inl below ↦ below
  | inr past ↦ absurd (false≢true (subst (λ (o : Option (List ℕ × List (ℕ × ℕ))). has_point (option_map_or (λ x. x.1) o []) p ≡ true) (slice_get_past (named_spaces g) s past) h))
]
