-- What holds of all spaces.
use Rattle.std.specs.Prelude.{◌≡◌, ℕ, ◌==◌, cond, false, ◌+◌, ◌-◌, ◌^◌, ◌<◌, ◌≤◌, ◌↔◌, List, ◌++◌, length, take, drop, slice_index, slice_index_or, All, Contains, Some, None, IsTrue, Option, true, get_or}
use Rattle.std.specs.List.Sorted.{IsStrictlyIncreasing}
use Rattle.index_spaces.specs.declared.space.SpaceFault.TheVariants.{Reversed, Order}
use Rattle.index_spaces.specs.declared.limits.SpaceLimits.{SpaceLimits}
use Rattle.index_spaces.specs.Space.{interval_has, has_point, points, space_size, rank, point_at, IsSpace, IsWithin}
use Rattle.index_spaces.specs.Column.{ColumnValue, cell_of, with_cell}
use Rattle.index_spaces.specs.Run.{interval_size, IsRun, IsRunAt, WritesRun, WritesPoints, written_over}
use Rattle.index_spaces.specs.SpaceFault.{space_fault_in}
use Rattle.index_spaces.specs.Held.{HeldList, HoldsOtherwise}
use Rattle.std.specs.Option.{IsSomeAnd}
use Rattle.std.specs.declared.vec.Vec.{Vec}

-- a point is listed exactly where an interval has it
abbrev pub PointsAreListed : Type 0
PointsAreListed = (s : List (ℕ × ℕ)) (p : ℕ) → Contains (points s) p ↔ IsTrue (has_point s p)

-- each listed point is below the next
abbrev pub PointsAscend : Type 0
PointsAscend = (s : List (ℕ × ℕ)) → IsSpace s → IsStrictlyIncreasing (points s)

-- a point has a rank below the size, and is the point of that rank
abbrev pub PointOfRank : Type 0
PointOfRank = (s : List (ℕ × ℕ)) (p : ℕ) → IsSpace s → IsTrue (has_point s p) → (rank s p < space_size s) × (point_at s (rank s p) ≡ p)

-- the point of a rank is in the space, and has that rank
abbrev pub RankOfPoint : Type 0
RankOfPoint = (s : List (ℕ × ℕ)) (r : ℕ) → IsSpace s → r < space_size s → IsTrue (has_point s (point_at s r)) × (rank s (point_at s r) ≡ r)

-- two spaces with the same points have the same intervals
abbrev pub SamePointsSameIntervals : Type 0
SamePointsSameIntervals = (s t : List (ℕ × ℕ)) → IsSpace s → IsSpace t → ((p : ℕ) → p < 2 ^ 32 → has_point s p ≡ has_point t p) → s ≡ t

-- pairs have no fault exactly where they make a space of few enough intervals and points
abbrev pub FaultlessPairs : Type 0
FaultlessPairs = (m : SpaceLimits) (pairs : List (ℕ × ℕ)) → All (λ (i : ℕ × ℕ). i.1 < 2 ^ 32) pairs →
    (space_fault_in m pairs ≡ None) ↔ (IsSpace pairs × (length pairs ≤ m.intervals) × (space_size pairs ≤ m.points))

-- the pair at a place
abbrev pub pair_at : List (ℕ × ℕ) → ℕ → ℕ × ℕ
pair_at pairs k = slice_index_or pairs k (0, 0)

-- a pair is not reversed, and begins at least two above the end of the one before
abbrev pub IsInPlace : List (ℕ × ℕ) → ℕ → Type 0
IsInPlace pairs k = ((pair_at pairs k).0 ≤ (pair_at pairs k).1) × (0 < k → (pair_at pairs (k - 1)).1 + 2 ≤ (pair_at pairs k).0)

-- the pair that is reported as reversed is so, and all before it are in place
abbrev pub ReversedIsFirst : Type 0
ReversedIsFirst = (m : SpaceLimits) (pairs : List (ℕ × ℕ)) (k : ℕ) → space_fault_in m pairs ≡ Some (Reversed k) →
    (k < length pairs) × ((j : ℕ) → j < k → IsInPlace pairs j) × ((pair_at pairs k).1 < (pair_at pairs k).0)

-- the pair that is reported out of order is not reversed, begins too low, and all before it are in place
abbrev pub OrderIsFirst : Type 0
OrderIsFirst = (m : SpaceLimits) (pairs : List (ℕ × ℕ)) (k : ℕ) → space_fault_in m pairs ≡ Some (Order k) →
    (k < length pairs) × ((j : ℕ) → j < k → IsInPlace pairs j) × ((pair_at pairs k).0 ≤ (pair_at pairs k).1) × (0 < k) × ((pair_at pairs k).0 < (pair_at pairs (k - 1)).1 + 2)

-- each interval begins at least two above the end of one before it
abbrev pub IntervalsAscend : Type 0
IntervalsAscend = (s : List (ℕ × ℕ)) (j k : ℕ) (d : ℕ × ℕ) → IsSpace s → j < k → k < length s → (slice_index_or s j d).1 + 2 ≤ (slice_index_or s k d).0

-- an interval of a space is a run of each space that has its points
abbrev pub RunsOfSpaces : Type 0
RunsOfSpaces = (s t : List (ℕ × ℕ)) (k : ℕ) (d : ℕ × ℕ) → IsSpace s → IsWithin s t → k < length s → IsRun t (slice_index_or s k d)

-- a write of the cells at the ranks of a run is a write at its points
abbrev pub RunsAreWritten : Type 0
RunsAreWritten = (s : List (ℕ × ℕ)) (i : ℕ × ℕ) (start : ℕ) (cells ys : List ℕ) (value : ℕ → ℕ) → IsRunAt s i start → length cells ≡ space_size s → length ys ≡ interval_size i →
    ((p : ℕ) → IsTrue (interval_has i p) → slice_index ys (p - i.0) ≡ value p) →
    WritesRun (record { space = s; cells = cells }) (record { space = s; cells = take start cells ++ (ys ++ drop (interval_size i) (drop start cells)) }) i value

-- a write of the cell at the rank of a point is a write at the point
abbrev pub CellsAreWritten : Type 0
CellsAreWritten = (c : ColumnValue) (p q v : ℕ) → IsSpace c.space → length c.cells ≡ space_size c.space → IsTrue (has_point c.space p) → IsTrue (has_point c.space q) →
    cell_of (with_cell c p v) q ≡ cond (q == p) v (cell_of c q)

-- the points of an interval lie in none of the intervals before it
abbrev pub EarlierPoints : Type 0
EarlierPoints = (s : List (ℕ × ℕ)) (k : ℕ) (d : ℕ × ℕ) (p : ℕ) → IsSpace s → k < length s → IsTrue (interval_has (slice_index_or s k d) p) → has_point (take k s) p ≡ false

-- a write of the first intervals of a space, and then of the next, is a write of one interval more
abbrev pub SpacesAreWritten : Type 0
SpacesAreWritten = (old now new : ColumnValue) (s : List (ℕ × ℕ)) (k : ℕ) (d : ℕ × ℕ) (value next : ℕ → ℕ) → IsWithin s old.space → k < length s → WritesPoints old now (take k s) value →
    WritesRun now new (slice_index_or s k d) next → ((p : ℕ) → IsTrue (interval_has (slice_index_or s k d) p) → next p ≡ value p) → WritesPoints old new (take (k + 1) s) value

-- a column that was let go of and is held again is held as if it had been all the time
abbrev pub HeldAgain : Type 0
HeldAgain = (old mid new : HeldList) (c : ℕ) (x : ColumnValue) → HoldsOtherwise old mid c None → HoldsOtherwise mid new c (Some x) →
    HoldsOtherwise old new c (Some x)

-- what holds of a column that is held holds of the one that it is
abbrev pub HoldsOfHeld : Option ColumnValue → (ColumnValue → Type 0) → Type 0
HoldsOfHeld o P = (x : ColumnValue) → o ≡ Some x → IsSomeAnd o P → P x

-- a point of one interval of a space is a point of the space
abbrev pub PointsOfIntervals : Type 0
PointsOfIntervals = (s : List (ℕ × ℕ)) (k : ℕ) (p : ℕ) → k < length s → interval_has (get_or s k (0, 0)) p ≡ true → has_point s p ≡ true

-- a part of the cells has the length that was asked for, where there are so many
abbrev pub CutHasLength : Type 0
CutHasLength = (cells : List ℕ) (start n : ℕ) → start + n ≤ length cells → length (take n (drop start cells)) ≡ n

-- a run that is written over leaves as many cells
abbrev pub WrittenRunsKeepLength : Type 0 → Type 0
WrittenRunsKeepLength Z = (v : Vec ℕ Z) (s : List (ℕ × ℕ)) (i : ℕ × ℕ) (start n : ℕ) (ys : List ℕ) → IsRunAt s i start → length v.items ≡ space_size s →
    n ≡ interval_size i → length ys ≡ n → length (written_over v.items start n ys) ≡ v.len
