-- Columns held under their numbers, each a column of its own or a share of one that is lent.
use Rattle.std.specs.Prelude.{◌≡◌, ◌≢◌, ℕ, ◌<◌, ◌==◌, Bool, false, cond, List, [], ◌∷◌, length, filter_map, Option, Some, None, slice_index_or, IsTrue}
use Rattle.std.specs.Option.{option_map_or}
use Rattle.index_spaces.specs.Column.{ColumnValue}

-- a column under its number, and the number of its lending where it is a share of one
pub record HeldEntry : Type 0 where
  pub number : ℕ
  pub column : ColumnValue
  pub share : Option ℕ

abbrev pub HeldList : Type 0
HeldList = List HeldEntry

-- the column that is held under a number
abbrev pub held_at : HeldList → ℕ → Option ColumnValue
held_at [] c = None
held_at (e ∷ es) c = cond (e.number == c) (Some e.column) (held_at es c)

-- the lending of the column that is held under a number: None where it is a column of its own, or none is held
abbrev pub lending_at : HeldList → ℕ → Option ℕ
lending_at [] c = None
lending_at (e ∷ es) c = cond (e.number == c) e.share (lending_at es c)

-- no number is held twice
abbrev pub NumbersDiffer : HeldList → Type 0
NumbersDiffer [] = Unit {0}
NumbersDiffer (e ∷ es) = (held_at es e.number ≡ None) × NumbersDiffer es

-- what stands in the places that are taken
abbrev pub entries : List (Option HeldEntry) → HeldList
entries places = filter_map (λ e. e) places

-- whether a place is taken under a number
abbrev pub is_numbered : ℕ → Option HeldEntry → Bool
is_numbered c place = option_map_or (λ (e : HeldEntry). e.number == c) place false

-- a place is taken by the column of a number
abbrev pub StandsAt : List (Option HeldEntry) → ℕ → ℕ → Type 0
StandsAt places c k = (k < length places) × IsTrue (is_numbered c (slice_index_or places k None))

-- each place is taken
abbrev pub AllTaken : List (Option HeldEntry) → Type 0
AllTaken [] = Unit {0}
AllTaken (None ∷ places) = ⊥
AllTaken (Some e ∷ places) = AllTaken places

-- each place is taken, and no number is held twice
pub record AreEntries (places : List (Option HeldEntry)) : Type 0 where
  pub taken : AllTaken places
  pub differ : NumbersDiffer (entries places)

-- one holds what the other does, but for this at the number c
pub record HoldsOtherwise (old new : HeldList) (c : ℕ) (column : Option ColumnValue) : Type 0 where
  pub here : held_at new c ≡ column
  pub others : (k : ℕ) → k ≢ c → held_at new k ≡ held_at old k
  pub lendings : (k : ℕ) → k ≢ c → lending_at new k ≡ lending_at old k
