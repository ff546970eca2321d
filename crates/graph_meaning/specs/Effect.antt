-- What a line does to the cells: a verdict, and changes of single cells, computed from the cells before it.
use Rattle.std.specs.Prelude.{ℕ, zero, suc, ◌+◌, ◌*◌, ◌%◌, ◌^◌, min, max, ◌==◌, nat_le, Bool, true, false, cond, not, ◌&&◌, List, [], ◌∷◌, map, filter, sum_by, count_by, Option, Some, None, ◌≡◌, Contains}
use Rattle.std.specs.Option.{option_map_or}
use Rattle.std.specs.List.{list_all, list_any}
use Rattle.index_spaces.specs.Space.{has_point, points, space_size, rank, point_at}
use Rattle.index_spaces.specs.declared.Op.{Op}
use Rattle.index_spaces.specs.declared.Op.TheVariants as op
use Rattle.graph_terms.specs.declared.outcome.Verdict.{Verdict}
use Rattle.graph_terms.specs.declared.outcome.Verdict.TheVariants.{Fine, Fault}
use Rattle.graph_terms.specs.declared.verb.Verb.{Verb}
use Rattle.graph_terms.specs.declared.verb.Verb.TheVariants.{Fill, Copy, Reduce, Task}
use Rattle.graph_terms.specs.declared.table.Kernel.{Kernel}
use Rattle.graph_terms.specs.declared.table.Kernel.TheVariants.{Iota, Axpy, Stencil, Scan, Hist, Dot, Expect, Gather}
use Rattle.graph_terms.specs.declared.verb.Access.{Access}
use Rattle.graph_terms.specs.declared.verb.Mode.{Mode}
use Rattle.graph_terms.specs.declared.verb.Mode.TheVariants as mode
use Rattle.graph_terms.specs.Graph.{GraphValue, verb_at, space_at}
use Rattle.graph_terms.specs.Access.{is_read, is_reduction, kernel_accesses}

-- the cells of all columns: by the number of the column and the point
abbrev pub Cells : Type 0
Cells = ℕ → ℕ → ℕ

-- all cells are 0
abbrev pub zero_cells : Cells
zero_cells column point = 0

-- how one cell changes
pub data Change : Type 0 where
  Set : ℕ → Change
  Add : ℕ → Change
  Least : ℕ → Change
  Most : ℕ → Change

-- a change of the cell of a column at a point
pub record CellChange : Type 0 where
  pub column : ℕ
  pub point : ℕ
  pub change : Change

abbrev pub wrapped : ℕ → ℕ
wrapped n = n % 2 ^ 64

-- the cell after a change
abbrev pub cell_after : Change → ℕ → ℕ
cell_after (Set v) cell = v
cell_after (Add v) cell = wrapped (cell + v)
cell_after (Least v) cell = min cell v
cell_after (Most v) cell = max cell v

-- the cell after a change, where the change is of this cell
abbrev pub cell_after_if : Bool → Change → ℕ → ℕ
cell_after_if true change cell = cell_after change cell
cell_after_if false change cell = cell

-- the cells after one change
abbrev pub cells_after_one : Cells → CellChange → Cells
cells_after_one cells c column point = cell_after_if ((column == c.column) && (point == c.point)) c.change (cells column point)

-- the cells after changes, one after another
abbrev pub cells_after : Cells → List CellChange → Cells
cells_after cells [] = cells
cells_after cells (c ∷ cs) = cells_after (cells_after_one cells c) cs

-- a verdict, and the changes
pub record Effect : Type 0 where
  pub verdict : Verdict
  pub changes : List CellChange

-- what each line does, by its number, to the cells before it
abbrev pub Effects : Type 0
Effects = ℕ → Cells → Effect

-- a change at each of the points
abbrev pub changes_at : (ℕ → Change) → ℕ → List ℕ → List CellChange
changes_at f column ps = map (λ p. record { column = column; point = p; change = f p }) ps

-- the sum of f over points
abbrev pub wrapped_sum : (ℕ → ℕ) → List ℕ → ℕ
wrapped_sum f ps = wrapped (sum_by f ps)

-- a point and its two neighbors
abbrev pub around : ℕ → List ℕ
around zero = 0 ∷ 1 ∷ []
around (suc p) = p ∷ suc p ∷ (suc p + 1) ∷ []

-- what a reduction does with a value to its target's cell
abbrev pub reduced : Op → ℕ → Change
reduced op.Sum value = Add value
reduced op.Min value = Least value
reduced op.Max value = Most value

-- whether an access lets the cell of a column at a point be read: it is no reduction, and the point lies in its space
abbrev pub may_read : (ℕ → List (ℕ × ℕ)) → ℕ → ℕ → Access → Bool
may_read space column point a = not (is_reduction a.mode) && ((a.column == column) && has_point (space a.space) point)

-- what a line with these accesses sees of the cells: those that it may read, and 0 elsewhere
abbrev pub seen : (ℕ → List (ℕ × ℕ)) → List Access → Cells → Cells
seen space accesses cells column point = cond (list_any (may_read space column point) accesses) (cells column point) 0

-- what a kernel computes for a point of its target from the cells that it sees; an expectation has no target
abbrev pub kernel_value : (ℕ → List (ℕ × ℕ)) → Cells → Kernel → ℕ → ℕ
kernel_value space cells (Iota x s value) p = wrapped (value + rank (space s) p)
kernel_value space cells (Axpy x y s factor) p = wrapped (factor * cells x p)
kernel_value space cells (Stencil x y r s) p = wrapped_sum (cells x) (filter (has_point (space r)) (around p))
kernel_value space cells (Scan x y s) p = wrapped_sum (cells x) (filter (λ q. nat_le q p) (points (space s)))
kernel_value space cells (Hist x y s t) q = count_by (λ p. cells x p % space_size (space t) == rank (space t) q) (points (space s))
kernel_value space cells (Dot x y z s t) q = wrapped_sum (λ p. cells x p * cells y p) (points (space s))
kernel_value space cells (Expect x s low high) p = 0
kernel_value space cells (Gather x y z s t) p = cells y (point_at (space t) (cells x p % space_size (space t)))

-- the column of a kernel that is written or into which it reduces
abbrev pub target : List Access → Option Access
target [] = None
target (a ∷ rest) = cond (is_read a.mode) (target rest) (Some a)

-- a value is written or reduced into a cell
abbrev pub change_by : Mode → ℕ → Change
change_by mode.Sum value = Add value
change_by mode.Least value = Least value
change_by mode.Most value = Most value
change_by _ value = Set value

-- the values at the points of an access
abbrev pub changes_of : (ℕ → List (ℕ × ℕ)) → (ℕ → ℕ) → Access → List CellChange
changes_of space f a = changes_at (λ p. change_by a.mode (f p)) a.column (points (space a.space))

-- the changes of a kernel rest on no cells but those that it sees
abbrev pub kernel_changes : (ℕ → List (ℕ × ℕ)) → Cells → Kernel → List CellChange
kernel_changes space cells k = option_map_or (changes_of space (kernel_value space (seen space (kernel_accesses k) cells) k)) (target (kernel_accesses k)) []

-- whether each cell of the column is within the bounds
abbrev pub all_within : (ℕ → ℕ) → ℕ → ℕ → List ℕ → Bool
all_within f low high ps = list_all (λ p. nat_le low (f p) && nat_le (f p) high) ps

-- the verdict of a kernel on the cells that it sees; only an expectation may be a fault
abbrev pub verdict_on : (ℕ → List (ℕ × ℕ)) → Cells → Kernel → Verdict
verdict_on space cells (Expect x s low high) = cond (all_within (cells x) low high (points (space s))) Fine Fault
verdict_on space cells _ = Fine

-- its verdict rests on no cells but those that it sees
abbrev pub kernel_verdict : (ℕ → List (ℕ × ℕ)) → Cells → Kernel → Verdict
kernel_verdict space cells k = verdict_on space (seen space (kernel_accesses k) cells) k

-- the changes that a line makes
abbrev pub verb_changes : (ℕ → List (ℕ × ℕ)) → Cells → Verb → List CellChange
verb_changes space cells (Fill target s value) = changes_at (λ p. Set value) target (points (space s))
verb_changes space cells (Copy source target s) = changes_at (λ p. Set (cells source p)) target (points (space s))
verb_changes space cells (Reduce op source target s) = changes_at (λ p. reduced op (cells source p)) target (points (space s))
verb_changes space cells (Task kernel) = kernel_changes space cells kernel
verb_changes space cells _ = []

abbrev pub verb_verdict : (ℕ → List (ℕ × ℕ)) → Cells → Verb → Verdict
verb_verdict space cells (Task kernel) = kernel_verdict space cells kernel
verb_verdict space cells _ = Fine

-- the effect of line i on these cells
abbrev pub effect : GraphValue → ℕ → Cells → Effect
effect g i cells = record {
  verdict = option_map_or (verb_verdict (space_at g) cells) (verb_at g i) Fine;
  changes = option_map_or (verb_changes (space_at g) cells) (verb_at g i) [];
}

-- a change of the cell at a column and a point
abbrev pub touches : ℕ → ℕ → CellChange → Bool
touches c p x = (c == x.column) && (p == x.point)

abbrev pub Untouched : ℕ → ℕ → List CellChange → Type 0
Untouched c p xs = (x : CellChange) → Contains xs x → touches c p x ≡ false
