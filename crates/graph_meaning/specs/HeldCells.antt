-- What an effect leaves in the columns that a line was given.
use Rattle.std.specs.Prelude.{◌≡◌, ℕ, false, List, length, map, Contains, Some, IsTrue, option_map}
use Rattle.std.specs.Option.{IsSomeAnd}
use Rattle.index_spaces.specs.Space.{has_point, points, space_size, IsSpace, IsWithin}
use Rattle.index_spaces.specs.Column.{ColumnValue, cell_of}
use Rattle.index_spaces.specs.Run.{WritesPoints}
use Rattle.index_spaces.specs.Held.{HeldList, held_at, lending_at, HoldsOtherwise}
use Rattle.graph_terms.specs.declared.verb.Access.{Access}
use Rattle.graph_terms.specs.Access.{is_reduction}
use Rattle.graph_terms.specs.Graph.{GraphValue}
use Rattle.graph_meaning.specs.Effect.{Cells, Change, cell_after, CellChange, cells_after, changes_at, seen, verb_changes}
use Rattle.graph_terms.specs.declared.verb.Verb.{Verb}
use Rattle.graph_meaning.specs.Evaluation.{column_of}

-- each column that is held has these cells at the points of its space
abbrev pub HasCells : HeldList → Cells → Type 0
HasCells held cells = (c : ℕ) (x : ColumnValue) → held_at held c ≡ Some x → x.cells ≡ map (cells c) (points x.space)

-- the same columns are held, over the same spaces, each of its own or by a share as before; whatever their cells were, they are those after the changes, which are computed from the cells before
pub record MakesChanges (old new : HeldList) (changes : Cells → List CellChange) : Type 0 where
  pub number : length new ≡ length old
  pub spaces : (c : ℕ) → option_map (λ (x : ColumnValue). x.space) (held_at new c) ≡ option_map (λ (x : ColumnValue). x.space) (held_at old c)
  pub lendings : (c : ℕ) → lending_at new c ≡ lending_at old c
  pub cells : (cells : Cells) → HasCells old cells → HasCells new (cells_after cells (changes cells))

-- the effect of a verb over a space, by whatever number the space goes
abbrev pub MakesVerb : HeldList → HeldList → List (ℕ × ℕ) → (ℕ → Verb) → Type 0
MakesVerb old new space verb = (spaces : ℕ → List (ℕ × ℕ)) (s : ℕ) → spaces s ≡ space → MakesChanges old new (λ cells. verb_changes spaces cells (verb s))

-- a column is held under this number, and its space has all points of the other space
abbrev pub HoldsOver : HeldList → ℕ → List (ℕ × ℕ) → Type 0
HoldsOver held c s = IsSomeAnd (held_at held c) (λ (x : ColumnValue). IsWithin s x.space)

-- a cell of a column that is held is the cell at its point
abbrev pub CellsByPoint : Type 0
CellsByPoint = (held : HeldList) (cells : Cells) (c : ℕ) (x : ColumnValue) (p : ℕ) → HasCells held cells → held_at held c ≡ Some x → IsSpace x.space → IsTrue (has_point x.space p) → cell_of x p ≡ cells c p

-- the cell of an access that is no reduction, at a point of its space, is seen
abbrev pub SeenCells : Type 0
SeenCells = (space : ℕ → List (ℕ × ℕ)) (accesses : List Access) (a : Access) (cells : Cells) (p : ℕ) → Contains accesses a → is_reduction a.mode ≡ false → IsTrue (has_point (space a.space) p) → seen space accesses cells a.column p ≡ cells a.column p

-- a write of one column that is held, at the points of a space, is a change at each of the points, where it writes what the change leaves; the other columns are as they were
abbrev pub ChangesByPoint : Type 0
ChangesByPoint = (old new : HeldList) (target : ℕ) (before after : ColumnValue) (s : List (ℕ × ℕ)) (value : ℕ → ℕ) (change : Cells → ℕ → Change) →
    IsSpace s → IsSpace before.space → held_at old target ≡ Some before → HoldsOtherwise old new target (Some after) → lending_at new target ≡ lending_at old target → length new ≡ length old → length after.cells ≡ space_size after.space → WritesPoints before after s value →
    ((cells : Cells) → HasCells old cells → (p : ℕ) → IsTrue (has_point s p) → value p ≡ cell_after (change cells p) (cells target p)) →
    MakesChanges old new (λ cells. changes_at (change cells) target (points s))

-- where the columns were those of a graph with these cells, they are those of the graph with the cells after the changes
abbrev pub ColumnsOfChanges : Type 0
ColumnsOfChanges = (g : GraphValue) (old new : HeldList) (changes : Cells → List CellChange) (cells : Cells) → MakesChanges old new changes →
    ((c : ℕ) (x : ColumnValue) → held_at old c ≡ Some x → x ≡ column_of g cells c) →
    (c : ℕ) (x : ColumnValue) → held_at new c ≡ Some x → x ≡ column_of g (cells_after cells (changes cells)) c
