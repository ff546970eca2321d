-- The parts of a column, one for each class of the spaces over which it is accessed.
use Rattle.std.specs.Prelude.{◌≡◌, ℕ, ◌<◌, List, length, map, Contains, Some, slice_get}
use Rattle.index_spaces.specs.Space.{IsSpace, IsWithin}
use Rattle.index_spaces.specs.declared.limits.TheConstants.{MAX_INTERVALS_OF_THREE}
use Rattle.space_classes.specs.Classes.{Spaces, space_of, IsUnion, CoversClass}
use Rattle.graph_terms.specs.Graph.{GraphValue, space_at}
use Rattle.column_pieces.specs.Pieces.{IsAccessed}
use Rattle.column_parts.specs.declared.parts.Part.{Part}
use Rattle.column_parts.specs.declared.parts.Part.TheVariants.{Declared, Union}
use Rattle.column_parts.specs.Parts.{spaces, IsFound, LiesInSome}

-- the spaces of these numbers
abbrev pub spaces_at : GraphValue → List ℕ → Spaces
spaces_at g numbers = map (space_at g) numbers

-- the part of the class of space k: the number of a space that has all points of the class, else a union
abbrev pub IsClassPart : List ℕ → Spaces → List ℕ → ℕ → Part → Type 0
IsClassPart numbers spaces labels k (Declared s) = (j : ℕ) × (j < length spaces) × (slice_get numbers j ≡ Some s) × IsUnion spaces labels k (space_of spaces j)
IsClassPart numbers spaces labels k (Union t) = IsUnion spaces labels k t × ((j : ℕ) → CoversClass spaces labels k t j → ⊥)

-- a part for each of these classes
pub record AreClassParts (numbers : List ℕ) (spaces : Spaces) (labels firsts : List ℕ) (parts : List Part) : Type 0 where
  pub count : length parts ≡ length firsts
  pub each : (i k : ℕ) (x : Part) → slice_get firsts i ≡ Some k → slice_get parts i ≡ Some x → IsClassPart numbers spaces labels k x

-- a space has more intervals than one that is declared
abbrev pub IsWide : List (ℕ × ℕ) → Type 0
IsWide t = IsSpace t × (MAX_INTERVALS_OF_THREE < length t)

-- the points of a class are such a space
abbrev pub HasWideClass : Spaces → List ℕ → Type 0
HasWideClass spaces labels = (k : ℕ) × (t : List (ℕ × ℕ)) × (k < length spaces) × IsUnion spaces labels k t × IsWide t

-- these are the parts of a column, each access lies in one, and a union in none
pub record AreParts (g : GraphValue) (c : ℕ) (parts : List Part) : Type 0 where
  pub found : IsFound g c (spaces g parts)
  pub covers : (s : ℕ) → IsAccessed g c s → LiesInSome (spaces g parts) (space_at g s)
  pub needed : (t : List (ℕ × ℕ)) → Contains parts (Union t) → (s : ℕ) → IsAccessed g c s → IsWithin t (space_at g s) → ⊥
