-- What holds of the shares of columns in their places, of codes of ends, and of what a seat knows.
use Rattle.std.specs.Prelude.{◌≡◌, ℕ, ◌+◌, ◌-◌, ◌^◌, ◌<◌, ◌≤◌, min, List, [], ◌∷◌, Contains, None, Some}
use Rattle.index_spaces.specs.Column.{ColumnValue}
use Rattle.graph_terms.specs.declared.outcome.End.{End}
use Rattle.run_state.specs.Run.{is_listed}
use Rattle.word_steps.specs.declared.content.Content.TheVariants.{Nothing, Share}
use Rattle.word_steps.specs.Claims.{Ground}
use Rattle.word_steps.specs.Lending.{home_for, all_for, count_for, place_for, rest_for, first_for, AreWhole, MayJoin, joined, in_place}
use Rattle.word_steps.specs.Plays.{end_of_code, ended_by}
use Rattle.word_steps.specs.Rule.{end_code}

-- A COLUMN OF SO MANY SHARES: in the place of share n it lies, and in a later place nothing
abbrev pub NoShareThere : Type 0
NoShareThere = (count d : ℕ) (x : ColumnValue) (n : ℕ) → count ≤ n → place_for count n d x ≡ Nothing

abbrev pub ShareThere : Type 0
ShareThere = (count d : ℕ) (x : ColumnValue) (n : ℕ) → n < count → place_for count n d x ≡ Share (record { column = x; lending = d; count = count_for count n })

-- what is left of all shares as they are laid down one by one
abbrev pub NoneAreLeft : Type 0
NoneAreLeft = (count d : ℕ) (x : ColumnValue) (n : ℕ) → count ≡ 0 → rest_for count n d x ≡ Nothing

abbrev pub SomeAreLeft : Type 0
SomeAreLeft = (count d : ℕ) (x : ColumnValue) (n : ℕ) → 0 < count → rest_for count n d x ≡ Share (record { column = x; lending = d; count = 2 ^ 63 + 1 - min n count })

abbrev pub LastIsFirst : Type 0
LastIsFirst = (count d : ℕ) (x : ColumnValue) (n : ℕ) → count ≤ n → rest_for count n d x ≡ place_for count 0 d x

abbrev pub AllAreLeft : Type 0
AllAreLeft = (count d : ℕ) (x : ColumnValue) → in_place (all_for count d x) ≡ rest_for count 1 d x

-- what the first of them are together, as they are joined one by one
abbrev pub NoneTogether : Type 0
NoneTogether = (count d : ℕ) (x : ColumnValue) (n : ℕ) → min n count ≡ 0 → first_for count n d x ≡ None

abbrev pub SomeTogether : Type 0
SomeTogether = (count d : ℕ) (x : ColumnValue) (n : ℕ) → 0 < min n count → first_for count n d x ≡ Some (record { column = x; lending = d; count = 2 ^ 63 + min n count - count })

abbrev pub NextMayJoin : Type 0
NextMayJoin = (count d : ℕ) (x : ColumnValue) → count < 2 ^ 63 → (n : ℕ) → MayJoin (first_for count n d x) (place_for count n d x)

abbrev pub JoinedWithNext : Type 0
JoinedWithNext = (count d : ℕ) (x : ColumnValue) → count < 2 ^ 63 → (n : ℕ) → joined (first_for count n d x) (place_for count n d x) ≡ first_for count (n + 1) d x

abbrev pub AllTogether : Type 0
AllTogether = (count d : ℕ) (x : ColumnValue) → count < 2 ^ 63 → (n : ℕ) → count ≤ n → first_for count n d x ≡ all_for count d x

abbrev pub AllAreWhole : Type 0
AllAreWhole = (count d : ℕ) (x : ColumnValue) → AreWhole (home_for count d x) (all_for count d x) x

-- A LINE: its end by its code, and by the load that found it ended
abbrev pub EndOfItsCode : Type 0
EndOfItsCode = (x : End) → end_of_code (end_code x) ≡ x

abbrev pub EndIsLearnt : Type 0
EndIsLearnt = (j r : ℕ) → 8 ≤ r → Contains (ended_by j r) (j, end_of_code (r - 8))

-- A SEAT with one key has it
abbrev pub HasItsKey : Type 0
HasItsKey = (l : List Ground) (x : Ground) → l ≡ x ∷ [] → Contains l x

-- LISTED: others are so with one more as without it
abbrev pub OthersListedAlike : Type 0
OthersListedAlike = (i j : ℕ) (ks : List ℕ) → (j ≡ i → ⊥) → is_listed (i ∷ ks) j ≡ is_listed ks j
