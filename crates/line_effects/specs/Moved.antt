-- The columns that are moved out for a line.
use Rattle.std.specs.Prelude.{◌≡◌, ◌≢◌, ℕ, false, List, length, map, Option, Some, None, slice_get, slice_index_or, Contains}
use Rattle.index_spaces.specs.Column.{ColumnValue}
use Rattle.index_spaces.specs.Held.{HeldList, held_at, lending_at}
use Rattle.graph_terms.specs.declared.verb.Access.{Access}
use Rattle.graph_terms.specs.Graph.{GraphValue}
use Rattle.graph_terms.specs.Access.{accesses, is_read}
use Rattle.graph_meaning.specs.Effect.{Cells}
use Rattle.graph_meaning.specs.Evaluation.{column_of}

-- the columns that a line uses
abbrev pub moves : GraphValue → ℕ → List ℕ
moves g i = map (λ (a : Access). a.column) (accesses g i)

-- each column that is held has these cells
abbrev pub HeldShow : GraphValue → Cells → HeldList → Type 0
HeldShow g cells held = (c : ℕ) (x : ColumnValue) → held_at held c ≡ Some x → x ≡ column_of g cells c

-- the columns that a line may change are held as columns of their own, and by no share
abbrev pub OwnsChanged : GraphValue → ℕ → HeldList → Type 0
OwnsChanged g i held = (a : Access) → Contains (accesses g i) a → is_read a.mode ≡ false → lending_at held a.column ≡ None

-- the columns that a line uses are moved out of their homes: exactly these are held, as columns of their own, each as it stood at home, and nothing else changed
pub record AreMoved (g : GraphValue) (i : ℕ) (old new : List (Option ColumnValue)) (held : HeldList) : Type 0 where
  pub each : length new ≡ length old
  pub has : (k c : ℕ) → slice_get (moves g i) k ≡ Some c → held_at held c ≡ slice_index_or old c None
  pub only : (c : ℕ) (x : ColumnValue) → held_at held c ≡ Some x → (k : ℕ) × (slice_get (moves g i) k ≡ Some c)
  pub own : (k c : ℕ) → slice_get (moves g i) k ≡ Some c → lending_at held c ≡ None
  pub out : (k c : ℕ) → slice_get (moves g i) k ≡ Some c → slice_index_or new c None ≡ None
  pub others : (c : ℕ) → ((k : ℕ) → slice_get (moves g i) k ≢ Some c) → slice_index_or new c None ≡ slice_index_or old c None

-- they are put back: each stands at home as it was held, and nothing else changed
pub record AreBack (g : GraphValue) (i : ℕ) (held : HeldList) (old new : List (Option ColumnValue)) : Type 0 where
  pub each : length new ≡ length old
  pub home : (k c : ℕ) → slice_get (moves g i) k ≡ Some c → slice_index_or new c None ≡ held_at held c
  pub others : (c : ℕ) → ((k : ℕ) → slice_get (moves g i) k ≢ Some c) → slice_index_or new c None ≡ slice_index_or old c None
