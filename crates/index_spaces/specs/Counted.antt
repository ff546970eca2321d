-- What a space keeps beside its intervals, so that points are found by halving.
use Rattle.std.specs.Prelude.{◌≡◌, ℕ, ◌<◌, ◌≤◌, List, length, take, slice_index}
use Rattle.index_spaces.specs.declared.limits.TheConstants.{MAX_POINTS_OF_THREE}
use Rattle.index_spaces.specs.Space.{space_size, IsSpace}

-- the intervals make a space, and its size and the rank of each
-- interval's first point are known
pub record IsCounted (intervals : List (ℕ × ℕ)) (ranks : List ℕ) (points : ℕ) : Type 0 where
  pub is_space : IsSpace intervals
  pub few : points ≤ MAX_POINTS_OF_THREE
  pub all : points ≡ space_size intervals
  pub one_each : length ranks ≡ length intervals
  pub below : (k : ℕ) → k < length intervals → slice_index ranks k ≡ space_size (take k intervals)
