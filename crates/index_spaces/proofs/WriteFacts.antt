-- Writes at the points of a space, interval by interval, in columns that are held.
use Rattle.std.proofs.Common.{ℕ, ◌≤◌, List, [], length, take, Option, refl, ◌∙◌}
use Rattle.std.proofs.lemmas.Bool.{false≢true}
use Rattle.std.proofs.lemmas.List.{take_all}
use Rattle.std.proofs.lemmas.List.Folds.{list_any_at}
use Rattle.index_spaces.specs.Space.{interval_has}
use Rattle.index_spaces.specs.Column.{ColumnValue}
use Rattle.index_spaces.specs.Run.{WritesPoints}
use Rattle.index_spaces.specs.Laws.{HeldAgain, HoldsOfHeld, PointsOfIntervals}

pub none_written : (c : ColumnValue) (value : ℕ → ℕ) → WritesPoints c c [] value
none_written c value = record { space = refl; inside = λ p h. absurd (false≢true h); outside = λ p h n. refl }

pub all_written : (old new : ColumnValue) (s : List (ℕ × ℕ)) (n : ℕ) (value : ℕ → ℕ) → length s ≤ n → WritesPoints old new (take n s) value → WritesPoints old new s value
all_written old new s n value h w = rw (take_all n s h) at w

-- a column that was let go of and is held again
pub held_again : HeldAgain
held_again old mid new c x out back = record { here = back.here; others = λ k n. back.others k n ∙ out.others k n; lendings = λ k n. back.lendings k n ∙ out.lendings k n }

pub holds_over : (o : Option ColumnValue) (P : ColumnValue → Type 0) → HoldsOfHeld o P
holds_over o P x e h = rw e at h

-- a point of one interval is a point of all
pub point_in : PointsOfIntervals
point_in s k p h has = list_any_at (λ i. interval_has i p) s k (0, 0) h has
