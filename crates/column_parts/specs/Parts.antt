-- The parts of each column: the accesses that were looked at lie within them, and no two have a point in common.
use Rattle.std.specs.Prelude.{◌≡◌, ℕ, ◌<◌, ◌≤◌, ◌⊎◌, List, [], ◌∷◌, length, map, Contains, Some, slice_get, Vec}
use Rattle.std.specs.Global.{Global}
use Rattle.index_spaces.specs.Space.{IsWithin, Meet}
use Rattle.graph_terms.specs.declared.verb.Access.{Access}
use Rattle.graph_terms.specs.Graph.{GraphValue, columns, space_at}
use Rattle.graph_terms.specs.Access.{accesses}
use Rattle.column_pieces.specs.Pieces.{Unions, IsAccessed, IsConnected, IsWhole}
use Rattle.column_pieces.specs.declared.pieces.TheConstants.{MAX_COLUMN_PIECES}
use Rattle.column_parts.specs.declared.parts.Part.{Part}
use Rattle.column_parts.specs.declared.parts.Part.TheVariants.{Declared, Union}

-- the points of a part
abbrev pub part_space : GraphValue → Part → List (ℕ × ℕ)
part_space g (Declared s) = space_at g s
part_space g (Union t) = t

-- those of some parts, and of the parts of each column
abbrev pub spaces : GraphValue → List Part → Unions
spaces g parts = map (part_space g) parts

abbrev pub spaces_of : GraphValue → List (Vec Part Global) → List Unions
spaces_of g lists = map (λ (v : Vec Part Global). spaces g v.items) lists

-- no two of these spaces have a point in common
abbrev pub AreApart : Unions → Type 0
AreApart [] = Unit {0}
AreApart (t ∷ ts) = ((u : List (ℕ × ℕ)) → Contains ts u → Meet t u → ⊥) × AreApart ts

-- these are parts of a column
pub record IsFound (g : GraphValue) (c : ℕ) (ts : Unions) : Type 0 where
  pub apart : AreApart ts
  pub each : (t : List (ℕ × ℕ)) → Contains ts t → IsConnected g c t ⊎ IsWhole g c t
  pub few : length ts ≤ MAX_COLUMN_PIECES

-- there are such for each column
pub record AreLists (g : GraphValue) (lists : List Unions) : Type 0 where
  pub count : length lists ≡ length (columns g)
  pub each : (c : ℕ) (ts : Unions) → slice_get lists c ≡ Some ts → IsFound g c ts

-- a space lies within a part of a column
abbrev pub LiesInSome : Unions → List (ℕ × ℕ) → Type 0
LiesInSome ts t = (u : List (ℕ × ℕ)) × Contains ts u × IsWithin t u

abbrev pub IsCovered : List Unions → ℕ → List (ℕ × ℕ) → Type 0
IsCovered lists c t = (ts : Unions) × (slice_get lists c ≡ Some ts) × LiesInSome ts t

-- each access of a line does
abbrev pub CoversLine : GraphValue → List Unions → ℕ → Type 0
CoversLine g lists i = (a : Access) → Contains (accesses g i) a → IsCovered lists a.column (space_at g a.space)

-- the parts of each column, as the accesses of the first lines ask for them
pub record AreFound (g : GraphValue) (found : List Unions) (n : ℕ) : Type 0 where
  pub lists : AreLists g found
  pub covers : (i : ℕ) → i < n → CoversLine g found i

-- no access has all points of a part that is a union
abbrev pub AreNeeded : GraphValue → List (Vec Part Global) → Type 0
AreNeeded g lists = (c s : ℕ) (v : Vec Part Global) (t : List (ℕ × ℕ)) → slice_get lists c ≡ Some v → Contains v.items (Union t) → IsAccessed g c s → IsWithin t (space_at g s) → ⊥
