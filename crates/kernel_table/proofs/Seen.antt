-- The cells of held columns that a kernel sees.
use Rattle.std.proofs.Common.{◌≡◌, ℕ, true, false, List, sym, ◌∙◌}
use Rattle.std.specs.Prelude.{Contains, Some}
use Rattle.index_spaces.specs.Space.{has_point, IsSpace, IsWithin}
use Rattle.index_spaces.specs.Column.{ColumnValue, cell_of}
use Rattle.index_spaces.specs.Held.{HeldList, held_at}
use Rattle.index_spaces.proofs.Public.{holds_over}
use Rattle.graph_terms.specs.declared.verb.Access.{Access}
use Rattle.graph_terms.specs.Access.{is_reduction}
use Rattle.graph_meaning.specs.Effect.{Cells, seen}
use Rattle.graph_meaning.specs.HeldCells.{HasCells, HoldsOver, CellsByPoint, SeenCells}

-- at a point of its space, the cell of a held column that is read is the one that is seen
pub cell_is_seen : CellsByPoint → SeenCells → (space : ℕ → List (ℕ × ℕ)) (accesses : List Access) (a : Access) (held : HeldList) (x : ColumnValue) →
    Contains accesses a → is_reduction a.mode ≡ false → held_at held a.column ≡ Some x → IsSpace x.space → HoldsOver held a.column (space a.space) →
    (cells : Cells) → HasCells held cells → (p : ℕ) → has_point (space a.space) p ≡ true → cell_of x p ≡ seen space accesses cells a.column p
cell_is_seen by_point as_seen space accesses a held x listed sum is over holds cells has p h =
    let within : IsWithin (space a.space) x.space = holds_over (held_at held a.column) (λ y. IsWithin (space a.space) y.space) x is holds in
    by_point held cells a.column x p has is over (within p h) ∙ sym (as_seen space accesses a cells p listed sum h)
