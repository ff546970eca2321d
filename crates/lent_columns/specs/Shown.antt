-- How columns at home and columns that are lent show all.
use Rattle.std.specs.Prelude.{◌≡◌, ℕ, List, [], ◌∷◌, length, map, Option, Some, None, slice_index_or}
use Rattle.index_spaces.specs.Column.{ColumnValue}
use Rattle.lent_columns.specs.Lendings.{Lending, SharedValue}

-- a column that is lent
pub record LentValue : Type 0 where
  pub column : ColumnValue
  pub lending : Lending

abbrev pub shown_column : Option ColumnValue → Option LentValue → Option ColumnValue
shown_column (Some x) o = Some x
shown_column None None = None
shown_column None (Some l) = Some l.column

abbrev pub shown_columns : List (Option ColumnValue) → List (Option LentValue) → List (Option ColumnValue)
shown_columns [] ls = []
shown_columns (x ∷ xs) [] = x ∷ xs
shown_columns (x ∷ xs) (l ∷ ls) = shown_column x l ∷ shown_columns xs ls

abbrev pub shown_lending : Option LentValue → Option Lending
shown_lending None = None
shown_lending (Some l) = Some l.lending

abbrev pub shown_shares : List (Option ColumnValue) → List (Option LentValue) → SharedValue
shown_shares homes lent = record { columns = shown_columns homes lent; lendings = map shown_lending lent }

-- there is a place for each, and one that is lent is not at home besides
pub record AreBeside (homes : List (Option ColumnValue)) (lent : List (Option LentValue)) : Type 0 where
  pub each : length homes ≡ length lent
  pub apart : (c : ℕ) (l : LentValue) → slice_index_or lent c None ≡ Some l → slice_index_or homes c None ≡ None
