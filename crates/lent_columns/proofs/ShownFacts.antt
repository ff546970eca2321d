-- How columns at home and columns that are lent show all.
use Rattle.std.proofs.Common.{◌≡◌, ℕ, zero, suc, ◌<◌, Bool, true, false, inl, inr, List, [], ◌∷◌, map, length, length-set, refl, sym, ◌∙◌, ap, subst, arith}
use Rattle.std.specs.Prelude.{Option, Some, None, IsSome, is_some, not, ◌&&◌, ◌||◌, slice_get, slice_index_or, slice_set, replicate}
use Rattle.std.proofs.lemmas.Bool.{true≢false, false≢true, cases_eq}
use Rattle.std.proofs.lemmas.Option.{none-some, slice_get-get_or}
use Rattle.std.proofs.lemmas.List.{get_or-map, get_or_default, get_or-set_same, get_or-set_other, map-set, set-set, length-map, length-replicate}
use Rattle.index_spaces.specs.Column.{ColumnValue}
use Rattle.lent_columns.specs.Lendings.{Lending, SharedValue, column_in, lending_in, one_fewer, is_open}
use Rattle.lent_columns.specs.Shown.{LentValue, shown_column, shown_columns, shown_lending, shown_shares, AreBeside}

-- WHAT IS SHOWN, by the place
shown_at : (xs : List (Option ColumnValue)) (ls : List (Option LentValue)) (c : ℕ) → length xs ≡ length ls → c < length xs → slice_index_or (shown_columns xs ls) c None ≡ shown_column (slice_index_or xs c None) (slice_index_or ls c None)
shown_at [] ls c e h = absurd (omega (arith, h))
shown_at (x ∷ xs) [] c e h = absurd (omega (arith, e))
shown_at (x ∷ xs) (l ∷ ls) zero e h = refl
shown_at (x ∷ xs) (l ∷ ls) (suc c) e h = shown_at xs ls c (omega (arith, e)) (omega (arith, h))

shown_length : (xs : List (Option ColumnValue)) (ls : List (Option LentValue)) → length (shown_columns xs ls) ≡ length xs
shown_length [] ls = refl
shown_length (x ∷ xs) [] = refl
shown_length (x ∷ xs) (l ∷ ls) = ap suc (shown_length xs ls)

home_set : (xs : List (Option ColumnValue)) (ls : List (Option LentValue)) (c : ℕ) (x : Option ColumnValue) → length xs ≡ length ls → shown_columns (slice_set xs c x) ls ≡ slice_set (shown_columns xs ls) c (shown_column x (slice_index_or ls c None))
home_set [] ls c x e = refl
home_set (y ∷ xs) [] c x e = absurd (omega (arith, e))
home_set (y ∷ xs) (l ∷ ls) zero x e = refl
home_set (y ∷ xs) (l ∷ ls) (suc c) x e = ap (λ zs. shown_column y l ∷ zs) (home_set xs ls c x (omega (arith, e)))

lent_set : (xs : List (Option ColumnValue)) (ls : List (Option LentValue)) (c : ℕ) (l : Option LentValue) → length xs ≡ length ls → shown_columns xs (slice_set ls c l) ≡ slice_set (shown_columns xs ls) c (shown_column (slice_index_or xs c None) l)
lent_set [] ls c l e = refl
lent_set (x ∷ xs) [] c l e = absurd (omega (arith, e))
lent_set (x ∷ xs) (m ∷ ls) zero l e = refl
lent_set (x ∷ xs) (m ∷ ls) (suc c) l e = ap (λ zs. shown_column x m ∷ zs) (lent_set xs ls c l (omega (arith, e)))

set_same : {X : Type 0} (xs : List X) (c : ℕ) (x d : X) → c < length xs → slice_index_or xs c d ≡ x → slice_set xs c x ≡ xs
set_same [] c x d h e = refl
set_same (y ∷ xs) zero x d h e = ap (λ z. z ∷ xs) (sym e)
set_same (y ∷ xs) (suc c) x d h e = ap (λ ys. y ∷ ys) (set_same xs c x d (omega (arith, h)) e)

-- WHAT STANDS AT A PLACE, by what is shown of it
none_there : (x : Option ColumnValue) (l : Option LentValue) → shown_column x l ≡ None → (x ≡ None) × (l ≡ None)
none_there (Some x) l e = absurd (none-some x (sym e))
none_there None (Some l) e = absurd (none-some l.column (sym e))
none_there None None e = (refl, refl)

open_there : (x : Option ColumnValue) (l : Option LentValue) → (is_some (shown_column x l) && (false || not (is_some (shown_lending l)))) ≡ true → IsSome x × (l ≡ None)
open_there (Some x) None e = (refl, refl)
open_there (Some x) (Some l) e = absurd (false≢true e)
open_there None None e = absurd (false≢true e)
open_there None (Some l) e = absurd (false≢true e)

here_or_lent : (x : Option ColumnValue) (l : Option LentValue) → (is_some (shown_column x l) && (true || not (is_some (shown_lending l)))) ≡ true → l ≡ None → IsSome x
here_or_lent (Some x) l e none = refl
here_or_lent None None e none = absurd (false≢true e)
here_or_lent None (Some l) e none = absurd (none-some l (sym none))

-- whether it is open, by whether it is at home and whether it is lent
at_home_open : (x : Option ColumnValue) (l : Option LentValue) (reads : Bool) → ((m : LentValue) → l ≡ Some m → x ≡ None) → not (is_some x) ≡ false → (is_some (shown_column x l) && (reads || not (is_some (shown_lending l)))) ≡ true
at_home_open (Some x) None true b h = refl
at_home_open (Some x) None false b h = refl
at_home_open (Some x) (Some l) reads b h = absurd (none-some x (sym (b l refl)))
at_home_open None l reads b h = absurd (true≢false h)

lent_open : (x : Option ColumnValue) (l : Option LentValue) → not (is_some x) ≡ true → (is_some (shown_column x l) && (true || not (is_some (shown_lending l)))) ≡ is_some l
lent_open (Some x) l h = absurd (false≢true h)
lent_open None None h = refl
lent_open None (Some l) h = refl

out_shut : (x : Option ColumnValue) (l : Option LentValue) → not (is_some x) ≡ true → (is_some (shown_column x l) && (false || not (is_some (shown_lending l)))) ≡ false
out_shut (Some x) l h = absurd (false≢true h)
out_shut None None h = refl
out_shut None (Some l) h = refl

abbrev pub shared : List (Option ColumnValue) → List (Option Lending) → SharedValue
shared xs ls = record { columns = xs; lendings = ls }

pub shared_eq : (xs ys : List (Option ColumnValue)) (ls ms : List (Option Lending)) → xs ≡ ys → ls ≡ ms → shared xs ls ≡ shared ys ms
shared_eq xs ys ls ms a b = λ t. shared (a t) (b t)

shown_unlent : (x : Option ColumnValue) (l : Option LentValue) → l ≡ None → shown_column x l ≡ x
shown_unlent (Some x) l e = refl
shown_unlent None None e = refl
shown_unlent None (Some l) e = absurd (none-some l (sym e))

shown_lent : (x : Option ColumnValue) (l : LentValue) → x ≡ None → shown_column x (Some l) ≡ Some l.column
shown_lent None l e = refl
shown_lent (Some y) l e = absurd (none-some y (sym e))

-- what is found at a place
pub found_at : {X : Type 0} (xs : List X) (c : ℕ) (o r d : X) → c < length xs → o ≡ r → r ≡ slice_index_or xs c r → slice_index_or xs c d ≡ o
found_at xs c o r d near e v = get_or_default xs c d r near ∙ (sym v ∙ sym e)

-- WHERE NONE IS LENT
pub none_shown : (xs : List (Option ColumnValue)) (n : ℕ) (ls : List (Option LentValue)) → length xs ≡ n → ls ≡ replicate n None → shown_shares xs ls ≡ shared xs (replicate n None)
none_shown xs n ls e is = ap (shown_shares xs) is ∙ shared_eq (shown_columns xs (replicate n None)) xs (map shown_lending (replicate n None)) (replicate n None) (columns_by xs n e) (lendings_by n)
  where
    columns_by : (ys : List (Option ColumnValue)) (m : ℕ) → length ys ≡ m → shown_columns ys (replicate m None) ≡ ys
    columns_by [] m e = refl
    columns_by (y ∷ ys) zero e = refl
    columns_by (y ∷ ys) (suc m) e = (λ t. shown_unlent y None refl t ∷ columns_by ys m (omega (arith, e)) t)

    lendings_by : (m : ℕ) → map shown_lending (replicate m None) ≡ replicate m None
    lendings_by zero = refl
    lendings_by (suc m) = ap (λ ms. None ∷ ms) (lendings_by m)

pub none_beside : (xs : List (Option ColumnValue)) (n : ℕ) (ls : List (Option LentValue)) → length xs ≡ n → ls ≡ replicate n None → AreBeside xs ls
none_beside xs n ls e is = record {
  each = e ∙ sym (ap length is ∙ length-replicate n None);
  apart = λ c l at. absurd (none-some l (sym (ap (λ ms. slice_index_or ms c None) is ∙ none_at n c) ∙ at));
}
  where
    none_at : (m c : ℕ) → slice_index_or (replicate {A = Option LentValue} m None) c None ≡ None
    none_at zero c = refl
    none_at (suc m) zero = refl
    none_at (suc m) (suc c) = none_at m c

pub room_for : (homes : List (Option ColumnValue)) (lent : List (Option LentValue)) (s : SharedValue) → shown_shares homes lent ≡ s → AreBeside homes lent → length s.columns ≡ length lent
room_for homes lent s is b = ap (λ (v : SharedValue). length v.columns) (sym is) ∙ (shown_length homes lent ∙ b.each)

-- where none is lent the columns are those at home
pub home_columns : (homes : List (Option ColumnValue)) (lent : List (Option LentValue)) (s : SharedValue) → shown_shares homes lent ≡ s → AreBeside homes lent → ((c : ℕ) → lending_in s.lendings c ≡ None) → homes ≡ s.columns
home_columns homes lent s is b none = sym (all_unlent homes lent (λ c. unlent_at c)) ∙ ap (λ (v : SharedValue). v.columns) is
  where
    not_lent : (o : Option LentValue) → shown_lending o ≡ None → o ≡ None
    not_lent None e = refl
    not_lent (Some l) e = absurd (none-some l.lending (sym e))

    lending_at : (ls : List (Option LentValue)) (c : ℕ) → slice_index_or (map shown_lending ls) c None ≡ shown_lending (slice_index_or ls c None)
    lending_at [] c = refl
    lending_at (l ∷ ls) zero = refl
    lending_at (l ∷ ls) (suc c) = lending_at ls c

    unlent_at : (c : ℕ) → slice_index_or lent c None ≡ None
    unlent_at c = not_lent (slice_index_or lent c None) (sym (lending_at lent c) ∙ (ap (λ (v : SharedValue). lending_in v.lendings c) is ∙ none c))

    all_unlent : (xs : List (Option ColumnValue)) (ls : List (Option LentValue)) → ((c : ℕ) → slice_index_or ls c None ≡ None) → shown_columns xs ls ≡ xs
    all_unlent [] ls h = refl
    all_unlent (x ∷ xs) [] h = refl
    all_unlent (x ∷ xs) (l ∷ ls) h = (λ t. shown_unlent x l (h 0) t ∷ all_unlent xs ls (λ c. h (suc c)) t)

-- of a place that is shown
module _ (homes : List (Option ColumnValue)) (lent : List (Option LentValue)) (s : SharedValue) (is : shown_shares homes lent ≡ s) (b : AreBeside homes lent) (c : ℕ) (known : c < length s.columns) where
  pub near_home : c < length homes
  near_home = subst (λ n. c < n) (ap (λ (v : SharedValue). length v.columns) (sym is) ∙ shown_length homes lent) known

  pub near_lent : c < length lent
  near_lent = subst (λ n. c < n) b.each near_home

  column_is : column_in s c ≡ shown_column (slice_index_or homes c None) (slice_index_or lent c None)
  column_is = ap (λ (v : SharedValue). column_in v c) (sym is) ∙ shown_at homes lent c b.each near_home

  pub lending_is : lending_in s.lendings c ≡ shown_lending (slice_index_or lent c None)
  lending_is = ap (λ (v : SharedValue). lending_in v.lendings c) (sym is) ∙ get_or-map shown_lending lent c None None near_lent

  open_is : (reads : Bool) → is_open s c reads ≡ (is_some (shown_column (slice_index_or homes c None) (slice_index_or lent c None)) && (reads || not (is_some (shown_lending (slice_index_or lent c None)))))
  open_is reads = λ t. is_some (column_is t) && (reads || not (is_some (lending_is t)))

  pub both_none : column_in s c ≡ None → (slice_index_or homes c None ≡ None) × (slice_index_or lent c None ≡ None)
  both_none e = none_there (slice_index_or homes c None) (slice_index_or lent c None) (sym column_is ∙ e)

  pub is_out : column_in s c ≡ None → slice_get homes c ≡ Some None
  is_out e = slice_get-get_or homes c None near_home ∙ ap (λ o. Some o) (both_none e).0

  pub whole_here : is_open s c false ≡ true → IsSome (slice_index_or homes c None) × (slice_index_or lent c None ≡ None)
  whole_here e = open_there (slice_index_or homes c None) (slice_index_or lent c None) (sym (open_is false) ∙ e)

  pub here_unlent : is_open s c true ≡ true → slice_index_or lent c None ≡ None → IsSome (slice_index_or homes c None)
  here_unlent e none = here_or_lent (slice_index_or homes c None) (slice_index_or lent c None) (sym (open_is true) ∙ e) none

  pub open_at_home : (reads : Bool) → not (is_some (slice_index_or homes c None)) ≡ false → true ≡ is_open s c reads
  open_at_home reads h = sym (open_is reads ∙ at_home_open (slice_index_or homes c None) (slice_index_or lent c None) reads (λ m e. b.apart c m e) h)

  pub open_lent : not (is_some (slice_index_or homes c None)) ≡ true → is_some (slice_index_or lent c None) ≡ is_open s c true
  open_lent h = sym (open_is true ∙ lent_open (slice_index_or homes c None) (slice_index_or lent c None) h)

  pub shut_out : not (is_some (slice_index_or homes c None)) ≡ true → false ≡ is_open s c false
  shut_out h = sym (open_is false ∙ out_shut (slice_index_or homes c None) (slice_index_or lent c None) h)

  pub unlent_is : slice_index_or lent c None ≡ None → column_in s c ≡ slice_index_or homes c None
  unlent_is none = column_is ∙ shown_unlent (slice_index_or homes c None) (slice_index_or lent c None) none

  pub lent_is : (l : LentValue) → slice_index_or lent c None ≡ Some l → column_in s c ≡ Some l.column
  lent_is l at = column_is ∙ (ap (shown_column (slice_index_or homes c None)) at ∙ shown_lent (slice_index_or homes c None) l (b.apart c l at))

  -- another thing stands at home, or among those that are lent
  pub home_shown : (x : Option ColumnValue) → shown_shares (slice_set homes c x) lent ≡ shared (slice_set s.columns c (shown_column x (slice_index_or lent c None))) s.lendings
  home_shown x = shared_eq (shown_columns (slice_set homes c x) lent) (slice_set s.columns c (shown_column x (slice_index_or lent c None))) (map shown_lending lent) s.lendings
      (home_set homes lent c x b.each ∙ ap (λ (v : SharedValue). slice_set v.columns c (shown_column x (slice_index_or lent c None))) is)
      (ap (λ (v : SharedValue). v.lendings) is)

  pub lent_shown : (l : Option LentValue) → shown_shares homes (slice_set lent c l) ≡ shared (slice_set s.columns c (shown_column (slice_index_or homes c None) l)) (slice_set s.lendings c (shown_lending l))
  lent_shown l = shared_eq (shown_columns homes (slice_set lent c l)) (slice_set s.columns c (shown_column (slice_index_or homes c None) l)) (map shown_lending (slice_set lent c l)) (slice_set s.lendings c (shown_lending l))
      (lent_set homes lent c l b.each ∙ ap (λ (v : SharedValue). slice_set v.columns c (shown_column (slice_index_or homes c None) l)) is)
      (map-set shown_lending lent c l ∙ ap (λ (v : SharedValue). slice_set v.lendings c (shown_lending l)) is)

  -- a column goes out that is at home, and one that is out comes home
  pub gone_shown : slice_index_or lent c None ≡ None → shown_shares (slice_set homes c None) lent ≡ shared (slice_set s.columns c None) s.lendings
  gone_shown none = home_shown None ∙ ap (λ o. shared (slice_set s.columns c o) s.lendings) (shown_unlent None (slice_index_or lent c None) none)

  -- a lending is taken out: of a column that is lent, and of one that is not
  pub lent_gone : (l : LentValue) → slice_index_or lent c None ≡ Some l → shown_shares homes (slice_set lent c None) ≡ shared (slice_set s.columns c None) (slice_set s.lendings c None)
  lent_gone l at = lent_shown None ∙ ap (λ o. shared (slice_set s.columns c (shown_column o None)) (slice_set s.lendings c None)) (b.apart c l at)

  pub unlent_gone : slice_index_or lent c None ≡ None → shown_shares (slice_set homes c None) (slice_set lent c None) ≡ shared (slice_set s.columns c None) (slice_set s.lendings c None)
  unlent_gone none =
      ap (shown_shares (slice_set homes c None)) (set_same lent c None None near_lent none)
      ∙ (gone_shown none ∙ ap (shared (slice_set s.columns c None)) (sym (set_same s.lendings c None None near_lending (lending_is ∙ ap shown_lending none))))
    where
      near_lending : c < length s.lendings
      near_lending = subst (λ n. c < n) (sym (ap (λ (v : SharedValue). length v.lendings) (sym is) ∙ length-map lent shown_lending)) near_lent

  -- a share comes back: the lending stays with one reader fewer, or the column is at home again
  pub left_lent : (l new : LentValue) → slice_index_or lent c None ≡ Some l → new.column ≡ l.column → one_fewer (Some l.lending) ≡ Some new.lending →
      shown_shares homes (slice_set lent c (Some new)) ≡ shared s.columns (slice_set s.lendings c (one_fewer (lending_in s.lendings c)))
  left_lent l new at same fewer =
      lent_shown (Some new)
      ∙ shared_eq (slice_set s.columns c (shown_column (slice_index_or homes c None) (Some new))) s.columns (slice_set s.lendings c (Some new.lending)) (slice_set s.lendings c (one_fewer (lending_in s.lendings c)))
      (ap (slice_set s.columns c) (shown_lent (slice_index_or homes c None) new (b.apart c l at)) ∙ set_same s.columns c (Some new.column) None known (lent_is l at ∙ ap (λ o. Some o) (sym same)))
      (ap (slice_set s.lendings c) (sym (ap one_fewer (lending_is ∙ ap shown_lending at) ∙ fewer)))

  pub left_home : (l : LentValue) (x : ColumnValue) → slice_index_or lent c None ≡ Some l → x ≡ l.column → one_fewer (Some l.lending) ≡ None →
      shown_shares (slice_set homes c (Some x)) (slice_set lent c None) ≡ shared s.columns (slice_set s.lendings c (one_fewer (lending_in s.lendings c)))
  left_home l x at same fewer =
      shared_eq (shown_columns (slice_set homes c (Some x)) (slice_set lent c None)) s.columns (map shown_lending (slice_set lent c None)) (slice_set s.lendings c (one_fewer (lending_in s.lendings c)))
      (home_set homes (slice_set lent c None) c (Some x) (b.each ∙ sym (length-set lent c None))
      ∙ (ap (λ zs. slice_set zs c (Some x)) (lent_set homes lent c None b.each)
      ∙ (set-set (shown_columns homes lent) c (shown_column (slice_index_or homes c None) None) (Some x)
      ∙ (ap (λ (v : SharedValue). slice_set v.columns c (Some x)) is ∙ set_same s.columns c (Some x) None known (lent_is l at ∙ ap (λ o. Some o) (sym same))))))
      (map-set shown_lending lent c None ∙ (ap (λ (v : SharedValue). slice_set v.lendings c None) is ∙ ap (slice_set s.lendings c) (sym (ap one_fewer (lending_is ∙ ap shown_lending at) ∙ fewer))))

-- BESIDE EACH OTHER, after a change of one place
pub home_beside : (homes : List (Option ColumnValue)) (lent : List (Option LentValue)) (c : ℕ) (x : Option ColumnValue) → AreBeside homes lent → slice_index_or lent c None ≡ None → AreBeside (slice_set homes c x) lent
home_beside homes lent c x b none = record {
  each = length-set homes c x ∙ b.each;
  apart = λ d l at. elim (cases_eq d c) [
    | inl same ↦ absurd (none-some l (sym (ap (λ k. slice_index_or lent k None) same ∙ none) ∙ at))
    | inr other ↦ get_or-set_other homes c d x None other ∙ b.apart d l at
  ];
}

pub lent_beside : (homes : List (Option ColumnValue)) (lent : List (Option LentValue)) (c : ℕ) (l : Option LentValue) → AreBeside homes lent → slice_index_or homes c None ≡ None → AreBeside homes (slice_set lent c l)
lent_beside homes lent c l b none = record {
  each = b.each ∙ sym (length-set lent c l);
  apart = λ d m at. elim (cases_eq d c) [
    | inl same ↦ ap (λ k. slice_index_or homes k None) same ∙ none
    | inr other ↦ b.apart d m (sym (get_or-set_other lent c d l None other) ∙ at)
  ];
}

-- a column that was lent is at home
pub unlent_beside : (homes : List (Option ColumnValue)) (lent : List (Option LentValue)) (c : ℕ) (x : Option ColumnValue) → c < length lent → AreBeside homes lent → AreBeside (slice_set homes c x) (slice_set lent c None)
unlent_beside homes lent c x near b = home_beside homes (slice_set lent c None) c x (record {
  each = b.each ∙ sym (length-set lent c None);
  apart = λ d l at. elim (cases_eq d c) [
    | inl same ↦ absurd (none-some l (sym (ap (λ k. slice_index_or (slice_set lent c None) k None) same ∙ get_or-set_same lent c None None near) ∙ at))
    | inr other ↦ b.apart d l (sym (get_or-set_other lent c d None None other) ∙ at)
  ];
}) (get_or-set_same lent c None None near)

-- A LENDING THAT WAS TAKEN OUT stands there again, with one reader more
module _ (homes : List (Option ColumnValue)) (lent : List (Option LentValue)) (old new : SharedValue) (is : shown_shares homes lent ≡ new) (b : AreBeside homes lent) (c : ℕ) (known : c < length old.columns)
    (w : new ≡ shared (slice_set old.columns c None) (slice_set old.lendings c None)) (l : LentValue) (at : column_in old c ≡ Some l.column)
  where
    known_new : c < length new.columns
    known_new = subst (λ n. c < n) (sym (ap (λ (v : SharedValue). length v.columns) w ∙ length-set old.columns c None)) known

    gone : column_in new c ≡ None
    gone = ap (λ (v : SharedValue). column_in v c) w ∙ get_or-set_same old.columns c None None known

    pub again_near : c < length lent
    again_near = near_lent homes lent new is b c known_new

    -- the lending that stands there
    pub again_there : lending_in (slice_set old.lendings c (Some l.lending)) c ≡ Some l.lending
    again_there = get_or-set_same old.lendings c (Some l.lending) None (subst (λ n. c < n) (sym long) again_near)
      where
        long : length old.lendings ≡ length lent
        long = sym (length-set old.lendings c None) ∙ (ap (λ (v : SharedValue). length v.lendings) (sym w) ∙ (ap (λ (v : SharedValue). length v.lendings) (sym is) ∙ length-map lent shown_lending))

    pub again_beside : AreBeside homes (slice_set lent c (Some l))
    again_beside = lent_beside homes lent c (Some l) b (both_none homes lent new is b c known_new gone).0

    pub again_shown : shown_shares homes (slice_set lent c (Some l)) ≡ shared old.columns (slice_set old.lendings c (Some l.lending))
    again_shown =
        lent_shown homes lent new is b c known_new (Some l)
        ∙ (ap (λ o. shared (slice_set new.columns c (shown_column o (Some l))) (slice_set new.lendings c (Some l.lending))) (both_none homes lent new is b c known_new gone).0
        ∙ (ap (λ (v : SharedValue). shared (slice_set v.columns c (Some l.column)) (slice_set v.lendings c (Some l.lending))) w
        ∙ shared_eq (slice_set (slice_set old.columns c None) c (Some l.column)) old.columns (slice_set (slice_set old.lendings c None) c (Some l.lending)) (slice_set old.lendings c (Some l.lending))
        (set-set old.columns c None (Some l.column) ∙ set_same old.columns c (Some l.column) None known at) (set-set old.lendings c None (Some l.lending))))
