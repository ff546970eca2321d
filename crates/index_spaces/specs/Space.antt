-- What a space is: the set of the points of its intervals. A space is seen as the list of its
-- closed intervals, each a pair of its least and its greatest point.
use Rattle.std.specs.Prelude.{ℕ, ◌+◌, ◌-◌, ◌^◌, ◌<◌, ◌≤◌, Bool, ◌&&◌, List, [], ◌∷◌, length, nat_lt, nat_le, flat_map, count_by, slice_index, IsTrue}
use Rattle.std.specs.List.{list_any, range_with_len}

-- whether a point lies in an interval
abbrev pub interval_has : ℕ × ℕ → ℕ → Bool
interval_has i p = nat_le i.0 p && nat_le p i.1

-- whether a point lies in the space
abbrev pub has_point : List (ℕ × ℕ) → ℕ → Bool
has_point s p = list_any (λ i. interval_has i p) s

-- the points of an interval, ascending
abbrev pub interval_points : ℕ × ℕ → List ℕ
interval_points i = range_with_len i.0 (i.1 + 1 - i.0)

-- the points of the space, ascending
abbrev pub points : List (ℕ × ℕ) → List ℕ
points s = flat_map interval_points s

-- how many points there are
abbrev pub space_size : List (ℕ × ℕ) → ℕ
space_size s = length (points s)

-- how many points lie below p
abbrev pub rank : List (ℕ × ℕ) → ℕ → ℕ
rank s p = count_by (λ q. nat_lt q p) (points s)

-- the point of rank r
abbrev pub point_at : List (ℕ × ℕ) → ℕ → ℕ
point_at s r = slice_index (points s) r

-- two spaces have a point in common
abbrev pub Meet : List (ℕ × ℕ) → List (ℕ × ℕ) → Type 0
Meet s t = (p : ℕ) × IsTrue (has_point s p) × IsTrue (has_point t p)

-- each point of the first lies in the second
abbrev pub IsWithin : List (ℕ × ℕ) → List (ℕ × ℕ) → Type 0
IsWithin s t = (p : ℕ) → IsTrue (has_point s p) → IsTrue (has_point t p)

-- each interval begins at least two above the end of the one before it, and none is reversed
abbrev pub AscendAbove : ℕ → List (ℕ × ℕ) → Type 0
AscendAbove low [] = Unit {0}
AscendAbove low (i ∷ s) = (low ≤ i.0) × (i.0 ≤ i.1) × (i.1 < 2 ^ 32) × AscendAbove (i.1 + 2) s

-- the intervals ascend, do not touch, and are not none
abbrev pub IsSpace : List (ℕ × ℕ) → Type 0
IsSpace s = (0 < length s) × AscendAbove 0 s
