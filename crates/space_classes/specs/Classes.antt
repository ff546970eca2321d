-- Spaces in classes: two are of one class where they have a point in common, or where others link them.
use Rattle.std.specs.Prelude.{◌≡◌, ℕ, ◌<◌, ◌⊎◌, List, [], ◌∷◌, ◌++◌, length, map, get_or, Contains, Some, slice_get, IsTrue}
use Rattle.std.specs.Borrow.{Bor}
use Rattle.index_spaces.specs.Space.{has_point, IsWithin, Meet}

abbrev pub Spaces : Type 0
Spaces = List (List (ℕ × ℕ))

-- the points of borrowed spaces
abbrev pub values : List (Bor (List (ℕ × ℕ))) → Spaces
values spaces = map (λ (s : Bor (List (ℕ × ℕ))). s.now) spaces

-- the space at a place, and its label
abbrev pub space_of : Spaces → ℕ → List (ℕ × ℕ)
space_of spaces k = get_or spaces k []

abbrev pub label : List ℕ → ℕ → ℕ
label labels k = get_or labels k 0

-- the spaces at two places have a point in common, or others link them
pub data AreLinked (spaces : Spaces) : ℕ → ℕ → Type 0 where
  same : {k : ℕ} → AreLinked spaces k k
  meet : {j k : ℕ} → j < length spaces → k < length spaces → Meet (space_of spaces j) (space_of spaces k) → AreLinked spaces j k
  more : {j k l : ℕ} → AreLinked spaces j k → AreLinked spaces k l → AreLinked spaces j l

-- these are the labels of the classes of spaces
pub record AreClasses (spaces : Spaces) (labels : List ℕ) : Type 0 where
  pub count : length labels ≡ length spaces
  pub meeting : (j k : ℕ) → j < length spaces → k < length spaces → Meet (space_of spaces j) (space_of spaces k) → label labels j ≡ label labels k
  pub linked : (j k : ℕ) → j < length spaces → k < length spaces → label labels j ≡ label labels k → AreLinked spaces j k

-- a space at one of these places has a label
abbrev pub HasClass : List ℕ → List ℕ → ℕ → Type 0
HasClass labels firsts wanted = (a : ℕ) × Contains firsts a × (label labels a ≡ wanted)

-- a place is put at the end of others, unless one of its class is there
pub data AddsFirst (labels : List ℕ) (k : ℕ) (old new : List ℕ) : Type 0 where
  had : HasClass labels old (label labels k) → new ≡ old → AddsFirst labels k old new
  added : (HasClass labels old (label labels k) → ⊥) → new ≡ old ++ k ∷ [] → AddsFirst labels k old new

-- spaces of different classes: of all, or of more than so many
pub record AreFirsts (labels : List ℕ) (most : ℕ) (firsts : List ℕ) : Type 0 where
  pub known : (k : ℕ) → Contains firsts k → k < length labels
  pub differ : (i j a b : ℕ) → slice_get firsts i ≡ Some a → slice_get firsts j ≡ Some b → label labels a ≡ label labels b → i ≡ j
  pub all : ((k : ℕ) → k < length labels → (a : ℕ) × Contains firsts a × (label labels a ≡ label labels k)) ⊎ (most < length firsts)

-- no other space is of the class of one
abbrev pub IsAlone : List ℕ → ℕ → Type 0
IsAlone labels k = (j : ℕ) → j < length labels → label labels j ≡ label labels k → j ≡ k

-- these are the points of the spaces of a class
pub record IsUnion (spaces : Spaces) (labels : List ℕ) (k : ℕ) (union : List (ℕ × ℕ)) : Type 0 where
  pub has : (j : ℕ) → j < length spaces → label labels j ≡ label labels k → IsWithin (space_of spaces j) union
  pub only : (p : ℕ) → IsTrue (has_point union p) → (j : ℕ) × (j < length spaces) × (label labels j ≡ label labels k) × IsTrue (has_point (space_of spaces j) p)

-- a space of the class has them all
pub record CoversClass (spaces : Spaces) (labels : List ℕ) (k : ℕ) (union : List (ℕ × ℕ)) (j : ℕ) : Type 0 where
  pub known : j < length spaces
  pub class : label labels j ≡ label labels k
  pub has : IsWithin union (space_of spaces j)
