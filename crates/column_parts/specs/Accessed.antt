-- The spaces over which each column is accessed, noted line by line.
use Rattle.std.specs.Prelude.{◌≡◌, ℕ, ◌<◌, ◌⊎◌, Bool, true, false, List, [], ◌∷◌, ◌++◌, length, get_or, Contains, Some, slice_get, slice_set, Vec}
use Rattle.std.specs.Global.{Global}
use Rattle.graph_terms.specs.declared.verb.Access.{Access}
use Rattle.graph_terms.specs.Graph.{GraphValue, columns}
use Rattle.graph_terms.specs.Access.{accesses}
use Rattle.column_pieces.specs.Pieces.{IsAccessed}

-- a column is accessed over just the spaces of these numbers
pub record AreAccessed (g : GraphValue) (c : ℕ) (numbers : List ℕ) : Type 0 where
  pub each : (s : ℕ) → Contains numbers s → IsAccessed g c s
  pub all : (s : ℕ) → IsAccessed g c s → Contains numbers s

-- a space is noted of a column
abbrev pub IsNoted : List (Vec ℕ Global) → ℕ → ℕ → Type 0
IsNoted lists c s = (v : Vec ℕ Global) × (slice_get lists c ≡ Some v) × Contains v.items s

-- the accesses of the first lines are noted, and no others
pub record AreNoted (g : GraphValue) (lists : List (Vec ℕ Global)) (n : ℕ) : Type 0 where
  pub count : length lists ≡ length (columns g)
  pub each : (c s : ℕ) → IsNoted lists c s → IsAccessed g c s
  pub all : (i : ℕ) → i < n → (a : Access) → Contains (accesses g i) a → IsNoted lists a.column a.space

-- those of a line are noted besides; the access in one of its places, if any
pub record NotesLine (g : GraphValue) (old new : List (Vec ℕ Global)) (i : ℕ) : Type 0 where
  pub count : length new ≡ length old
  pub each : (c s : ℕ) → IsNoted new c s → IsNoted old c s ⊎ IsAccessed g c s
  pub kept : (c s : ℕ) → IsNoted old c s → IsNoted new c s
  pub noted : (a : Access) → Contains (accesses g i) a → IsNoted new a.column a.space

pub record NotesPlace (g : GraphValue) (old new : List (Vec ℕ Global)) (i k : ℕ) : Type 0 where
  pub count : length new ≡ length old
  pub each : (c s : ℕ) → IsNoted new c s → IsNoted old c s ⊎ IsAccessed g c s
  pub kept : (c s : ℕ) → IsNoted old c s → IsNoted new c s
  pub noted : (a : Access) → slice_get (accesses g i) k ≡ Some a → IsNoted new a.column a.space

-- a number is put at the end of others, unless it was seen
pub data Keeps (s : ℕ) (old : List ℕ) (seen : List Bool) (new : List ℕ) (seen_new : List Bool) : Type 0 where
  again : get_or seen s false ≡ true → new ≡ old → seen_new ≡ seen → Keeps s old seen new seen_new
  once : get_or seen s false ≡ false → new ≡ old ++ s ∷ [] → seen_new ≡ slice_set seen s true → Keeps s old seen new seen_new
