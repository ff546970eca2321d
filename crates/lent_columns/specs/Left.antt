-- What is left of a column that is lent once a share is back.
use Rattle.std.specs.Prelude.{◌≡◌, Some, None}
use Rattle.lent_columns.specs.Lendings.{one_fewer}
use Rattle.lent_columns.specs.Shown.{LentValue}
use Rattle.lent_columns.specs.declared.lent.Left.{Left}
use Rattle.lent_columns.specs.declared.lent.Left.TheVariants.{Lent, Home}

-- the lending with one reader fewer, or the column where none is left
abbrev pub IsLeft : LentValue → Left → Type 0
IsLeft old (Lent new) = (new.column ≡ old.column) × (one_fewer (Some old.lending) ≡ Some new.lending)
IsLeft old (Home column) = (column ≡ old.column) × (one_fewer (Some old.lending) ≡ None)
