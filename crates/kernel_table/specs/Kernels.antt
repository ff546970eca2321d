-- When a kernel may run on the columns that are held, and what it leaves.
use Rattle.std.specs.Prelude.{◌≡◌, ◌≢◌, ℕ, ◌<◌, false, nat_eq, List, [], ◌∷◌, length, map, Contains, Some, None, IfSome, IsTrue}
use Rattle.index_spaces.specs.Space.{has_point, IsSpace, IsWithin}
use Rattle.index_spaces.specs.Column.{ColumnValue, cell_of}
use Rattle.index_spaces.specs.Held.{HeldList, held_at, lending_at}
use Rattle.index_spaces.specs.Run.{WritesPoints}
use Rattle.graph_terms.specs.declared.outcome.Verdict.{Verdict}
use Rattle.graph_terms.specs.declared.verb.Access.{Access}
use Rattle.graph_terms.specs.declared.verb.Mode.{Mode}
use Rattle.graph_terms.specs.declared.verb.Mode.TheVariants.{Read}
use Rattle.graph_terms.specs.declared.table.Kernel.{Kernel}
use Rattle.graph_terms.specs.Graph.{GraphValue, named_spaces, space_at}
use Rattle.graph_terms.specs.Access.{kernel_accesses, is_read, is_reduction}
use Rattle.graph_meaning.specs.Effect.{Cells, cell_after, change_by, target, kernel_value, kernel_changes, kernel_verdict}
use Rattle.graph_terms.specs.Fits.{repeats}
use Rattle.graph_meaning.specs.HeldCells.{HasCells, HoldsOver, MakesChanges}

-- a kernel's spaces are declared, its columns are held over them, those that it may change as columns of their own, and it names no column twice
pub record FitsHeld (g : GraphValue) (held : HeldList) (kernel : Kernel) : Type 0 where
  pub declared : (a : Access) → Contains (kernel_accesses kernel) a → a.space < length (named_spaces g)
  pub columns : (a : Access) → Contains (kernel_accesses kernel) a → HoldsOver held a.column (space_at g a.space)
  pub own : (a : Access) → Contains (kernel_accesses kernel) a → is_read a.mode ≡ false → lending_at held a.column ≡ None
  pub distinct : repeats nat_eq (map (λ (a : Access). a.column) (kernel_accesses kernel)) ≡ false

-- a column is held over a declared space
abbrev pub HoldsOverSpace : GraphValue → HeldList → ℕ → ℕ → Type 0
HoldsOverSpace g held c s = (s < length (named_spaces g)) × HoldsOver held c (space_at g s)

abbrev pub EachHeld : GraphValue → HeldList → List Access → Type 0
EachHeld g held [] = Unit {0}
EachHeld g held (a ∷ rest) = HoldsOverSpace g held a.column a.space × EachHeld g held rest

-- no column stands twice among accesses
abbrev pub NotAmong : ℕ → List Access → Type 0
NotAmong c [] = Unit {0}
NotAmong c (a ∷ rest) = (c ≢ a.column) × NotAmong c rest

abbrev pub EachOnce : List Access → Type 0
EachOnce [] = Unit {0}
EachOnce (a ∷ rest) = NotAmong a.column rest × EachOnce rest

-- the first where an access reads, else the second
abbrev pub WhereRead : Mode → Type 0 → Type 0 → Type 0
WhereRead Read P Q = P
WhereRead _ P Q = Q

-- the first column that is not only read is no share
abbrev pub OwnTarget : HeldList → List Access → Type 0
OwnTarget held [] = Unit {0}
OwnTarget held (a ∷ rest) = WhereRead a.mode (OwnTarget held rest) (lending_at held a.column ≡ None)

-- a kernel that fits, access by access
abbrev pub FitsEach : GraphValue → HeldList → Kernel → Type 0
FitsEach g held kernel = EachHeld g held (kernel_accesses kernel) × EachOnce (kernel_accesses kernel) × OwnTarget held (kernel_accesses kernel)

-- what a run of a kernel gives, whatever the cells are, and what it leaves in the columns that are held
pub record RunsKernel (g : GraphValue) (old new : HeldList) (given : Verdict) (kernel : Kernel) : Type 0 where
  pub verdict : (cells : Cells) → HasCells old cells → given ≡ kernel_verdict (space_at g) cells kernel
  pub changes : MakesChanges old new (λ cells. kernel_changes (space_at g) cells kernel)

-- the column of a space and of these cells
abbrev pub column_over : List (ℕ × ℕ) → List ℕ → ColumnValue
column_over space cells = record { space = space; cells = cells }

-- a column has the points of a declared space
abbrev pub OverSpace : GraphValue → ColumnValue → ℕ → Type 0
OverSpace g x s = (s < length (named_spaces g)) × IsWithin (space_at g s) x.space

-- what is read before the target is held, and the target's column has the points of its space
abbrev pub FitsUpTo : GraphValue → HeldList → ColumnValue → List Access → Type 0
FitsUpTo g held before [] = Unit {0}
FitsUpTo g held before (a ∷ rest) = WhereRead a.mode (HoldsOverSpace g held a.column a.space × FitsUpTo g held before rest) (OverSpace g before a.space)

-- at the points of a space these cells are those of a column
abbrev pub SeesColumn : GraphValue → Cells → ColumnValue → ℕ → ℕ → Type 0
SeesColumn g cells x c s = (p : ℕ) → IsTrue (has_point (space_at g s) p) → cell_of x p ≡ cells c p

-- the same of a column that is held
abbrev pub SeesHeld : GraphValue → HeldList → Cells → ℕ → ℕ → Type 0
SeesHeld g held cells c s = (x : ColumnValue) → held_at held c ≡ Some x → IsSpace x.space → SeesColumn g cells x c s

-- these cells are those of what is read before the target, and of the target's column where it is no reduction
abbrev pub SeesUpTo : GraphValue → HeldList → ColumnValue → Cells → List Access → Type 0
SeesUpTo g held before cells [] = Unit {0}
SeesUpTo g held before cells (a ∷ rest) =
    WhereRead a.mode (SeesHeld g held cells a.column a.space × SeesUpTo g held before cells rest) (is_reduction a.mode ≡ false → SeesColumn g cells before a.column a.space)

-- what a kernel makes of its target's column, of whatever cells it sees
pub record MakesColumn (g : GraphValue) (held : HeldList) (before after : ColumnValue) (kernel : Kernel) (t : Access) : Type 0 where
  pub is_space : IsSpace (space_at g t.space)
  pub written : (cells : Cells) → SeesUpTo g held before cells (kernel_accesses kernel) →
      WritesPoints before after (space_at g t.space) (λ p. cell_after (change_by t.mode (kernel_value (space_at g) cells kernel p)) (cell_of before p))

-- the same of a kernel that has a target
unfoldable pub Makes : GraphValue → HeldList → ColumnValue → ColumnValue → Kernel → Type 0
Makes g held before after kernel = IfSome (target (kernel_accesses kernel)) (MakesColumn g held before after kernel)
