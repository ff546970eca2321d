-- Where the columns are shown to be.
use Rattle.std.proofs.Common.{◌≡◌, ℕ, zero, suc, ◌<◌, List, [], ◌∷◌, length, refl, sym, ◌∙◌, ap, arith}
use Rattle.std.specs.Prelude.{◌≢◌, Option, Some, None, IsSome, slice_index, slice_index_or, slice_set}
use Rattle.std.proofs.lemmas.Bool.{true≢false}
use Rattle.index_spaces.specs.Column.{ColumnValue}
use Rattle.run_state.specs.Run.{Home, Had, place_at}
use Rattle.run_core.specs.Kept.{place_of, places_of}
use Rattle.run_core.specs.Steps.{IsAtHome}

-- a column that is taken, and one that is given back
pub places_taken : (xs : List (Option ColumnValue)) (ts : List ℕ) (c i : ℕ) → length xs ≡ length ts → places_of (slice_set xs c None) (slice_set ts c i) ≡ slice_set (places_of xs ts) c (Had i)
places_taken [] ts c i e = refl
places_taken (x ∷ xs) [] c i e = absurd (omega (arith, e))
places_taken (x ∷ xs) (t ∷ ts) zero i e = refl
places_taken (x ∷ xs) (t ∷ ts) (suc c) i e = ap (λ ps. place_of x t ∷ ps) (places_taken xs ts c i (omega (arith, e)))

pub places_given : (xs : List (Option ColumnValue)) (ts : List ℕ) (c : ℕ) (y : ColumnValue) → length xs ≡ length ts → places_of (slice_set xs c (Some y)) ts ≡ slice_set (places_of xs ts) c (Home y.cells)
places_given [] ts c y e = refl
places_given (x ∷ xs) [] c y e = absurd (omega (arith, e))
places_given (x ∷ xs) (t ∷ ts) zero y e = refl
places_given (x ∷ xs) (t ∷ ts) (suc c) y e = ap (λ ps. place_of x t ∷ ps) (places_given xs ts c y (omega (arith, e)))

-- the place of a column
pub place_is : (xs : List (Option ColumnValue)) (ts : List ℕ) (c : ℕ) → length xs ≡ length ts → c < length xs → place_at (places_of xs ts) c ≡ place_of (slice_index_or xs c None) (slice_index ts c)
place_is [] ts c e h = absurd (omega (arith, h))
place_is (x ∷ xs) [] c e h = absurd (omega (arith, e))
place_is (x ∷ xs) (t ∷ ts) zero e h = refl
place_is (x ∷ xs) (t ∷ ts) (suc c) e h = place_is xs ts c (omega (arith, e)) (omega (arith, h))

pub length-places : (xs : List (Option ColumnValue)) (ts : List ℕ) → length xs ≡ length ts → length (places_of xs ts) ≡ length xs
length-places [] ts e = refl
length-places (x ∷ xs) [] e = absurd (omega (arith, e))
length-places (x ∷ xs) (t ∷ ts) e = ap suc (length-places xs ts (omega (arith, e)))

had_not_home : (k : ℕ) (xs : List ℕ) → Home xs ≡ Had k → ⊥
had_not_home k xs e = cc

-- a column is at home where it is there
home_by : (o : Option ColumnValue) (t : ℕ) → IsSome o → (taker : ℕ) → place_of o t ≢ Had taker
home_by (Some x) t s taker e = had_not_home taker x.cells e
home_by None t s taker e = absurd (true≢false (sym s))

there_by : (o : Option ColumnValue) (t : ℕ) → ((taker : ℕ) → place_of o t ≢ Had taker) → IsSome o
there_by (Some x) t n = refl
there_by None t n = absurd (n t refl)

pub at_home : (xs : List (Option ColumnValue)) (ts : List ℕ) (c : ℕ) → length xs ≡ length ts → c < length xs → IsSome (slice_index_or xs c None) → IsAtHome (places_of xs ts) c
at_home xs ts c e h s taker at = home_by (slice_index_or xs c None) (slice_index ts c) s taker (sym (place_is xs ts c e h) ∙ at)

pub is_there : (xs : List (Option ColumnValue)) (ts : List ℕ) (c : ℕ) → length xs ≡ length ts → c < length xs → IsAtHome (places_of xs ts) c → IsSome (slice_index_or xs c None)
is_there xs ts c e h n = there_by (slice_index_or xs c None) (slice_index ts c) (λ taker at. n taker (place_is xs ts c e h ∙ at))
