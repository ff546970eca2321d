-- The cell of a point is found at the point's rank.
use Rattle.std.proofs.Common.{◌≡◌, ℕ, true, List, map, ◌∙◌, ap}
use Rattle.std.specs.Prelude.{slice_index}
use Rattle.std.proofs.lemmas.List.{get_or-map}
use Rattle.index_spaces.specs.Space.{has_point, points, rank, IsSpace}
use Rattle.index_spaces.proofs.Public.{point_of_rank}

pub cell_of_point : (s : List (ℕ × ℕ)) → IsSpace s → (f : ℕ → ℕ) (p : ℕ) → has_point s p ≡ true → slice_index (map f (points s)) (rank s p) ≡ f p
cell_of_point s is f p h = let at = point_of_rank s p is h in get_or-map f (points s) (rank s p) 0 0 at.0 ∙ ap f at.1
