-- What the shares of a column that is lent are, and the right to have it back.
use Rattle.std.specs.Prelude.{ℕ}
use Rattle.index_spaces.specs.Column.{ColumnValue}

-- the column as it is lent, and the number of the lending, which is the same for its lender and all of its shares
pub record LenderValue : Type 0 where
  pub column : ColumnValue
  pub lending : ℕ

-- so many shares of it
pub record ShareValue : Type 0 where
  pub column : ColumnValue
  pub lending : ℕ
  pub count : ℕ
