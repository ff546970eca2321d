-- What a line reads and writes, and when two lines conflict.
use Rattle.std.specs.Prelude.{◌≡◌, ◌≢◌, ℕ, ◌+◌, nat_eq, Bool, true, false, List, [], ◌∷◌, ◌++◌, length, map, zip, filter_map, Contains, Option, Some, None, slice_index, slice_get, IsTrue}
use Rattle.std.specs.Option.{option_map_or}
use Rattle.index_spaces.specs.Space.{Meet}
use Rattle.graph_terms.specs.declared.verb.Access.{Access}
use Rattle.graph_terms.specs.declared.verb.Mode.{Mode}
use Rattle.graph_terms.specs.declared.verb.Mode.TheVariants.{Read, Write, Sum, Least, Most}
use Rattle.graph_terms.specs.declared.format.Format.{Format}
use Rattle.graph_terms.specs.declared.format.Format.TheVariants.{One}
use Rattle.graph_terms.specs.declared.verb.Verb.{Verb}
use Rattle.graph_terms.specs.declared.verb.Verb.TheVariants.{Task, Call}
use Rattle.graph_terms.specs.declared.table.Kernel.{Kernel}
use Rattle.graph_terms.specs.declared.table.Parts.{Parts}
use Rattle.graph_terms.specs.declared.table.Place.{Place}
use Rattle.graph_terms.specs.declared.table.Place.TheVariants.{Column}
use Rattle.graph_terms.specs.Table.{Placed, verb_places, verb_parts}
use Rattle.graph_terms.specs.Graph.{GraphValue, verb_at, space_at, columns}

abbrev pub access : ℕ → ℕ → Mode → Access
access column space mode = record { «column» = column; «space» = space; «mode» = mode }

-- a column in its place is an access over the space in another place
abbrev pub access_at : List ℕ → Place → ℕ → Option Access
access_at parts (Column mode over) column = Some (access column (slice_index parts over) mode)
access_at parts _ n = None

-- the same of parts as the code has them
abbrev pub access_in : Parts → Place → ℕ → Option Access
access_in parts (Column mode over) k = Some (access (slice_index parts.numbers k) (slice_index parts.numbers over) mode)
access_in parts _ k = None

-- the accesses of numbers in their places, in this order
abbrev pub accesses_of : List Place → List ℕ → List Access
accesses_of places parts = filter_map (λ (p : Placed). access_at parts p.0 p.1) (zip places parts)

abbrev pub verb_accesses : Verb → List Access
verb_accesses v = accesses_of (verb_places v) (verb_parts v)

-- the first three of them, where they are there
abbrev pub kept_accesses : Verb → List (Option Access)
kept_accesses v = slice_get (verb_accesses v) 0 ∷ slice_get (verb_accesses v) 1 ∷ slice_get (verb_accesses v) 2 ∷ []

-- the accesses that are there
abbrev pub present : List (Option Access) → List Access
present accesses = filter_map (λ a. a) accesses

-- two that are there, and are of one column
abbrev pub columns_alike : Option Access → Option Access → Bool
columns_alike (Some a) (Some b) = nat_eq a.column b.column
columns_alike _ _ = false

abbrev pub kernel_accesses : Kernel → List Access
kernel_accesses kernel = verb_accesses (Task kernel)

-- a reduction by the least or the greatest value is a write to format 1
abbrev pub or_write : Format → Mode → Mode
or_write One m = Write
or_write f m = m

abbrev pub mode_in : Format → Mode → Mode
mode_in f Read = Read
mode_in f Write = Write
mode_in f Sum = Sum
mode_in f Least = or_write f Least
mode_in f Most = or_write f Most

-- an access as a format takes it
abbrev pub in_format : Format → Access → Access
in_format f a = access a.column a.space (mode_in f a.mode)

-- the accesses of a line to columns with cells, in order
abbrev pub accesses : GraphValue → ℕ → List Access
accesses g i = map (in_format g.format) (option_map_or verb_accesses (verb_at g i) [])

-- the accesses of a call, each of a column of data
abbrev pub call_accesses : Verb → List Access
call_accesses (Call call) = call.accesses
call_accesses _ = []

-- an access of a column of data, where these columns are numbered behind those with cells
abbrev pub behind_columns : GraphValue → Access → Access
behind_columns g a = access (length (columns g) + a.column) a.space a.mode

-- the accesses of a line to columns of both kinds, in order; a line has those of one kind alone
abbrev pub all_accesses : GraphValue → ℕ → List Access
all_accesses g i = accesses g i ++ map (behind_columns g) (option_map_or call_accesses (verb_at g i) [])

abbrev pub is_read : Mode → Bool
is_read Read = true
is_read _ = false

-- whether an access reduces into its cells, whatever they are
abbrev pub is_reduction : Mode → Bool
is_reduction Sum = true
is_reduction Least = true
is_reduction Most = true
is_reduction _ = false

-- two uses that must not meet: not both are reads
abbrev pub modes_clash : Mode → Mode → Bool
modes_clash Read Read = false
modes_clash _ _ = true

-- two accesses of one column at a shared point, not both reads
pub record AccessesConflict (g : GraphValue) (a b : Access) : Type 0 where
  pub column : a.column ≡ b.column
  pub meet : Meet (space_at g a.space) (space_at g b.space)
  pub clash : IsTrue (modes_clash a.mode b.mode)

-- two different lines with accesses that conflict
pub record Conflict (g : GraphValue) (i j : ℕ) : Type 0 where
  pub different : i ≢ j
  pub one : Access
  pub other : Access
  pub one_in : Contains (all_accesses g i) one
  pub other_in : Contains (all_accesses g j) other
  pub conflict : AccessesConflict g one other
