-- What holds of the lines of every graph.
use Rattle.std.specs.Prelude.{◌≡◌, ◌≢◌, ℕ, ◌+◌, ◌<◌, ◌≤◌, ◌⊎◌, [], length, Contains, Some, slice_get}
use Rattle.index_spaces.specs.Space.{IsSpace, IsWithin}
use Rattle.graph_terms.specs.declared.verb.Access.{Access}
use Rattle.graph_terms.specs.declared.limits.TheConstants.{MAX_CALL_ACCESSES}
use Rattle.graph_terms.specs.declared.verb.Verb.{Verb}
use Rattle.graph_terms.specs.declared.verb.Verb.TheVariants.{Phase}
use Rattle.graph_terms.specs.Graph.{GraphValue, columns, data_columns, column_space, named_spaces, space_at, barriers, verb_at}
use Rattle.graph_terms.specs.Access.{accesses, all_accesses, verb_accesses, call_accesses}
use Rattle.graph_terms.specs.Fits.{IsGraph}

-- a line has at most three accesses
abbrev pub AccessesAreFew : Type 0
AccessesAreFew = (g : GraphValue) (i : ℕ) → length (accesses g i) ≤ 3

-- an access is of a column and over a space of the graph, and each point of the space is in the column
pub record AccessFits (g : GraphValue) (a : Access) : Type 0 where
  pub column : a.column < length (columns g)
  pub space : a.space < length (named_spaces g)
  pub is_space : IsSpace (space_at g a.space)
  pub is_column_space : IsSpace (column_space g a.column)
  pub within : IsWithin (space_at g a.space) (column_space g a.column)

abbrev pub AccessesFit : Type 0
AccessesFit = (g : GraphValue) (i : ℕ) (a : Access) → IsGraph g → Contains (accesses g i) a → AccessFits g a

-- no two accesses of a line are of one column
abbrev pub ColumnsDiffer : Type 0
ColumnsDiffer = (g : GraphValue) (i j k : ℕ) (a b : Access) → IsGraph g → j < k → slice_get (accesses g i) j ≡ Some a → slice_get (accesses g i) k ≡ Some b → a.column ≢ b.column

-- a line has at most eight accesses, those to data counted too
abbrev pub AllAccessesAreFew : Type 0
AllAccessesAreFew = (g : GraphValue) (i : ℕ) → IsGraph g → length (all_accesses g i) ≤ MAX_CALL_ACCESSES

-- an access is of a column of either kind and over a space of the graph
pub record AnyAccessFits (g : GraphValue) (a : Access) : Type 0 where
  pub column : a.column < length (columns g) + length (data_columns g)
  pub space : a.space < length (named_spaces g)
  pub is_space : IsSpace (space_at g a.space)

abbrev pub AllAccessesFit : Type 0
AllAccessesFit = (g : GraphValue) (i : ℕ) (a : Access) → IsGraph g → Contains (all_accesses g i) a → AnyAccessFits g a

-- a line accesses columns of one kind alone
abbrev pub AccessesOfOneKind : Type 0
AccessesOfOneKind = (v : Verb) → (verb_accesses v ≡ []) ⊎ (call_accesses v ≡ [])

-- an access of a column with cells stands among all accesses
abbrev pub AccessesAreAmongAll : Type 0
AccessesAreAmongAll = (g : GraphValue) (i : ℕ) (a : Access) → Contains (accesses g i) a → Contains (all_accesses g i) a

-- and one among all that is of a column with cells is one of those
abbrev pub AccessesWithCells : Type 0
AccessesWithCells = (g : GraphValue) (i : ℕ) (a : Access) → Contains (all_accesses g i) a → a.column < length (columns g) → Contains (accesses g i) a

-- the barrier of a phase is declared
abbrev pub PhasesFit : Type 0
PhasesFit = (g : GraphValue) (i b : ℕ) → IsGraph g → verb_at g i ≡ Some (Phase b) → b < length (barriers g)
