-- The columns of a graph, of which lines that only read one have shares.
use Rattle.std.specs.Prelude.{◌≡◌, ℕ, ◌+◌, ◌-◌, nat_lt, cond, Bool, not, is_some, ◌&&◌, ◌||◌, List, Option, Some, None, slice_index_or, slice_set}
use Rattle.index_spaces.specs.Column.{ColumnValue}
use Rattle.index_spaces.specs.Shares.{ShareValue}

-- a lending of a column: its number, and how many readers have a share
pub record Lending : Type 0 where
  pub number : ℕ
  pub readers : ℕ

-- each column that is at home, lent or not, and None for one that is out; and the lending of each that is lent
pub record SharedValue : Type 0 where
  pub columns : List (Option ColumnValue)
  pub lendings : List (Option Lending)

abbrev pub column_in : SharedValue → ℕ → Option ColumnValue
column_in s c = slice_index_or s.columns c None

abbrev pub lending_in : List (Option Lending) → ℕ → Option Lending
lending_in ls c = slice_index_or ls c None

-- how many have a share, and the number of the lending, where there is one
abbrev pub readers_of : Option Lending → ℕ
readers_of None = 0
readers_of (Some l) = l.readers

abbrev pub number_of : Option Lending → Option ℕ
number_of None = None
number_of (Some l) = Some l.number

-- one reader more: of the same lending, where the column is lent
pub record HasOneMore (old : Option Lending) (l : Lending) : Type 0 where
  pub readers : l.readers ≡ readers_of old + 1
  pub same : (k : Lending) → old ≡ Some k → l.number ≡ k.number

-- one reader fewer: the last one ends the lending
abbrev pub one_fewer : Option Lending → Option Lending
one_fewer None = None
one_fewer (Some l) = cond (nat_lt 1 l.readers) (Some (record { number = l.number; readers = l.readers - 1 })) None

-- whether a column is open to a line that only reads it, or to one that may change it: it is at home, and for the latter not lent
abbrev pub is_open : SharedValue → ℕ → Bool → Bool
is_open s c reads = is_some (column_in s c) && (reads || not (is_some (lending_in s.lendings c)))

-- a share of a column was given out
pub record GivesShare (old new : SharedValue) (c : ℕ) (share : ShareValue) : Type 0 where
  pub columns : new.columns ≡ old.columns
  pub lending : Lending
  pub lendings : new.lendings ≡ slice_set old.lendings c (Some lending)
  pub now : lending_in new.lendings c ≡ Some lending
  pub more : HasOneMore (lending_in old.lendings c) lending
  pub one : share.count ≡ 1
  pub column : column_in old c ≡ Some share.column
  pub number : share.lending ≡ lending.number
