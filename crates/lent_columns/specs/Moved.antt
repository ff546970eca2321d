-- The columns of a line, taken and given back: those that it may change whole, those that it only reads by shares.
use Rattle.std.specs.Prelude.{◌≡◌, ◌≢◌, ℕ, ◌+◌, ◌<◌, true, false, length, Contains, Some, None, slice_get, IsSome}
use Rattle.index_spaces.specs.Held.{HeldList, held_at, lending_at}
use Rattle.graph_terms.specs.declared.verb.Access.{Access}
use Rattle.graph_terms.specs.Graph.{GraphValue}
use Rattle.graph_terms.specs.Access.{accesses, is_read}
use Rattle.lent_columns.specs.Lendings.{Lending, SharedValue, column_in, lending_in, number_of, HasOneMore, one_fewer, is_open}

-- each column of a line is open to it
abbrev pub AreOpen : GraphValue → ℕ → SharedValue → Type 0
AreOpen g i s = (a : Access) → Contains (accesses g i) a → is_open s a.column (is_read a.mode) ≡ true

-- c is the first of its columns that is not
pub record IsFirstShut (g : GraphValue) (i : ℕ) (s : SharedValue) (c : ℕ) : Type 0 where
  pub place : ℕ
  pub access : Access
  pub at : slice_get (accesses g i) place ≡ Some access
  pub column : access.column ≡ c
  pub is_shut : is_open s access.column (is_read access.mode) ≡ false
  pub before : (k : ℕ) (a : Access) → k < place → slice_get (accesses g i) k ≡ Some a → is_open s a.column (is_read a.mode) ≡ true

-- TAKEN. A column that a line may change is moved out, and one that it only reads stays, with one reader more
pub record IsTaken (a : Access) (old new : SharedValue) (held : HeldList) : Type 0 where
  pub has : held_at held a.column ≡ column_in old a.column
  pub is_there : IsSome (column_in old a.column)
  pub own : is_read a.mode ≡ false → lending_at held a.column ≡ None
  pub out : is_read a.mode ≡ false → column_in new a.column ≡ None
  pub same : is_read a.mode ≡ false → lending_in new.lendings a.column ≡ lending_in old.lendings a.column
  pub stays : is_read a.mode ≡ true → column_in new a.column ≡ column_in old a.column
  pub share : is_read a.mode ≡ true → (l : Lending) × (lending_in new.lendings a.column ≡ Some l) × HasOneMore (lending_in old.lendings a.column) l
      × (lending_at held a.column ≡ Some l.number)

-- nothing changed of a column
pub record IsSame (old new : SharedValue) (c : ℕ) : Type 0 where
  pub column : column_in new c ≡ column_in old c
  pub lending : lending_in new.lendings c ≡ lending_in old.lendings c

-- one column was taken, and of others nothing changed, nor what is held of them
pub record TakesColumn (a : Access) (old new : SharedValue) (had held : HeldList) : Type 0 where
  pub each_column : length new.columns ≡ length old.columns
  pub each_lending : length new.lendings ≡ length old.lendings
  pub taken : IsTaken a old new held
  pub others : (c : ℕ) → c ≢ a.column → IsSame old new c × (held_at held c ≡ held_at had c) × (lending_at held c ≡ lending_at had c)
  pub number : length held ≡ length had + 1

-- the columns of a line were taken, which holds exactly these; nothing changed of any other
pub record AreTaken (g : GraphValue) (i : ℕ) (old new : SharedValue) (held : HeldList) : Type 0 where
  pub each_column : length new.columns ≡ length old.columns
  pub each_lending : length new.lendings ≡ length old.lendings
  pub taken : (a : Access) → Contains (accesses g i) a → IsTaken a old new held
  pub others : (c : ℕ) → ((a : Access) → Contains (accesses g i) a → a.column ≢ c) → IsSame old new c × (held_at held c ≡ None)

-- GIVEN BACK. What a line holds, that is to be given back: whole columns that are out, and shares of the lendings
pub record MayGive (a : Access) (s : SharedValue) (held : HeldList) : Type 0 where
  pub has : IsSome (held_at held a.column)
  pub own : is_read a.mode ≡ false → lending_at held a.column ≡ None
  pub out : is_read a.mode ≡ false → column_in s a.column ≡ None
  pub share : is_read a.mode ≡ true → lending_at held a.column ≡ number_of (lending_in s.lendings a.column)
  pub lent : is_read a.mode ≡ true → IsSome (lending_in s.lendings a.column)

-- a column that a line may change comes home, and of one that it only reads there is one reader fewer
pub record IsGiven (a : Access) (held : HeldList) (old new : SharedValue) : Type 0 where
  pub home : is_read a.mode ≡ false → column_in new a.column ≡ held_at held a.column
  pub same : is_read a.mode ≡ false → lending_in new.lendings a.column ≡ lending_in old.lendings a.column
  pub stays : is_read a.mode ≡ true → column_in new a.column ≡ column_in old a.column
  pub left : is_read a.mode ≡ true → lending_in new.lendings a.column ≡ one_fewer (lending_in old.lendings a.column)

-- one column was given back, and of others nothing changed, nor what is held of them
pub record GivesColumn (a : Access) (had held : HeldList) (old new : SharedValue) : Type 0 where
  pub each_column : length new.columns ≡ length old.columns
  pub each_lending : length new.lendings ≡ length old.lendings
  pub given : IsGiven a had old new
  pub others : (c : ℕ) → c ≢ a.column → IsSame old new c × (held_at held c ≡ held_at had c) × (lending_at held c ≡ lending_at had c)

-- all columns of a line were given back, and nothing changed of any other
pub record AreGiven (g : GraphValue) (i : ℕ) (held : HeldList) (old new : SharedValue) : Type 0 where
  pub each_column : length new.columns ≡ length old.columns
  pub each_lending : length new.lendings ≡ length old.lendings
  pub given : (a : Access) → Contains (accesses g i) a → IsGiven a held old new
  pub others : (c : ℕ) → ((a : Access) → Contains (accesses g i) a → a.column ≢ c) → IsSame old new c
