-- A search for the lines to which paths lead from a line.
use Rattle.std.specs.Prelude.{◌≡◌, ℕ, ◌⊎◌, Bool, true, false, not, List, Contains, count_by}
use Rattle.std.specs.List.{slice_index_or}
use Rattle.graph_terms.specs.declared.verb.Edge.{Edge}
use Rattle.graph_meaning.specs.Path.{Path}

-- whether a line is marked, and how many lines aren't
abbrev pub marked_in : List Bool → ℕ → Bool
marked_in marked j = slice_index_or marked j false

abbrev pub unmarked : List Bool → ℕ
unmarked marked = count_by not marked

-- a search under way from line i: the lines marked so far, and those whose edges are still to be passed
pub record IsSearching (es : List Edge) (i : ℕ) (marked : ℕ → Bool) (stack : List ℕ) : Type 0 where
  pub found : (j : ℕ) → marked j ≡ true → Path es i j
  pub stacked : (j : ℕ) → Contains stack j → marked j ≡ true
  pub begun : (e : Edge) → Contains es e → e.from ≡ i → marked e.to ≡ true
  pub closed : (e : Edge) → Contains es e → marked e.from ≡ true → (marked e.to ≡ true) ⊎ Contains stack e.from

-- the targets of these edges are marked, and those that were not are on the stack
pub record IsMarking (passed : List Edge) (old : List Bool) (waiting : List ℕ) (marked : List Bool) (stack : List ℕ) : Type 0 where
  pub keeps : (j : ℕ) → marked_in old j ≡ true → marked_in marked j ≡ true
  pub marks : (j : ℕ) → marked_in old j ≡ false → marked_in marked j ≡ true → ((e : Edge) × Contains passed e × (e.to ≡ j)) × Contains stack j
  pub covers : (e : Edge) → Contains passed e → marked_in marked e.to ≡ true
  pub stays : (j : ℕ) → Contains waiting j → Contains stack j
  pub stacked : (j : ℕ) → Contains stack j → Contains waiting j ⊎ (marked_in marked j ≡ true)
