-- Runs: the points of an interval that lies within a space stand side by side among the points of the space.
use Rattle.std.specs.Prelude.{◌≡◌, ℕ, ◌+◌, ◌-◌, ◌%◌, ◌^◌, ◌<◌, ◌≤◌, min, max, ◌⊎◌, false, List, IsTrue, ◌++◌, take, drop}
use Rattle.index_spaces.specs.declared.Op.{Op}
use Rattle.index_spaces.specs.declared.Op.TheVariants.{Sum, Min, Max}
use Rattle.index_spaces.specs.Space.{interval_has, has_point, space_size, rank}
use Rattle.index_spaces.specs.Column.{ColumnValue, cell_of}

-- how many points an interval has
abbrev pub interval_size : ℕ × ℕ → ℕ
interval_size i = i.1 + 1 - i.0

-- an interval that is not reversed, and whose points all lie in the space
pub record IsRun (s : List (ℕ × ℕ)) (i : ℕ × ℕ) : Type 0 where
  pub ascends : i.0 ≤ i.1
  pub within : (p : ℕ) → IsTrue (interval_has i p) → IsTrue (has_point s p)

-- the points of an interval have the ranks from start on, and no other point has one of them
pub record IsRunAt (s : List (ℕ × ℕ)) (i : ℕ × ℕ) (start : ℕ) : Type 0 where
  pub fits : start + interval_size i ≤ space_size s
  pub ranks : (p : ℕ) → IsTrue (interval_has i p) → rank s p ≡ start + (p - i.0)
  pub others : (p : ℕ) → IsTrue (has_point s p) → interval_has i p ≡ false → (rank s p < start) ⊎ (start + interval_size i ≤ rank s p)

-- two values made one
abbrev pub reduced_cell : Op → ℕ → ℕ → ℕ
reduced_cell Sum a b = (a + b) % 2 ^ 64
reduced_cell Min a b = min a b
reduced_cell Max a b = max a b

-- one column has the space of another, and this value at each point of the interval and the other's cell elsewhere
pub record WritesRun (old new : ColumnValue) (i : ℕ × ℕ) (value : ℕ → ℕ) : Type 0 where
  pub space : new.space ≡ old.space
  pub inside : (p : ℕ) → IsTrue (interval_has i p) → cell_of new p ≡ value p
  pub outside : (p : ℕ) → IsTrue (has_point old.space p) → interval_has i p ≡ false → cell_of new p ≡ cell_of old p

-- one column has the space of another, and this value at each point of these intervals and the other's cell elsewhere
pub record WritesPoints (old new : ColumnValue) (s : List (ℕ × ℕ)) (value : ℕ → ℕ) : Type 0 where
  pub space : new.space ≡ old.space
  pub inside : (p : ℕ) → IsTrue (has_point s p) → cell_of new p ≡ value p
  pub outside : (p : ℕ) → IsTrue (has_point old.space p) → has_point s p ≡ false → cell_of new p ≡ cell_of old p

-- a list with a part of it written over
abbrev pub written_over : List ℕ → ℕ → ℕ → List ℕ → List ℕ
written_over cells start n ys = take start cells ++ (ys ++ drop n (drop start cells))
