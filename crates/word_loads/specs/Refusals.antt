-- What a claimed line gets of its columns, and what was found where it gets none.
use Rattle.std.specs.Prelude.{◌≡◌, ◌≢◌, ℕ, ◌+◌, ◌≤◌, ◌⊎◌, true, false, List, [], ◌∷◌, ◌++◌, Some, slice_get}
use Rattle.graph_terms.specs.declared.verb.Access.{Access}
use Rattle.graph_terms.specs.Access.{accesses}
use Rattle.graph_terms.specs.Graph.{GraphValue, line_passes, is_shared}
use Rattle.graph_terms.specs.Reservations.{Acquires}
use Rattle.run_parts.specs.declared.answers.Thing.{Thing}
use Rattle.run_parts.specs.declared.answers.Thing.TheVariants as things
use Rattle.word_steps.specs.declared.content.Content.{Content}
use Rattle.word_steps.specs.declared.view.View.{View}
use Rattle.word_steps.specs.Claims.{Claim}
use Rattle.word_steps.specs.Layout.{size_of, lock_word, half, alone_code}
use Rattle.word_steps.specs.Plays.{Sat, looked_at, saw_all}
use Rattle.word_loads.specs.declared.loads.Load.{Load}
use Rattle.word_loads.specs.Laden.{AreFree, IsAway, Loaded}

-- the last that was found is that the word w shows a line other than i
abbrev pub EndsAtOther : ℕ → ℕ → List (ℕ × ℕ) → List (ℕ × ℕ) → Type 0
EndsAtOther i w before found = (r : ℕ) × (found ≡ before ++ (w, r) ∷ []) × (r ≢ 0) × (r ≢ i + 1)

-- the last that was found is that the word w shows a holder other than line i
abbrev pub EndsHeld : ℕ → ℕ → List (ℕ × ℕ) → List (ℕ × ℕ) → Type 0
EndsHeld i w before found = (r : ℕ) × (found ≡ before ++ (w, r) ∷ []) × (r ≢ 0) × (r ≢ alone_code i)

-- the last that was found is that the word w shows an exclusive holder
abbrev pub EndsAlone : ℕ → List (ℕ × ℕ) → List (ℕ × ℕ) → Type 0
EndsAlone w before found = (r : ℕ) × (found ≡ before ++ (w, r) ∷ []) × (half ≤ r)

-- the last that was found is that the word w has changed since it was loaded
abbrev pub EndsChanged : ℕ → List (ℕ × ℕ) → List (ℕ × ℕ) → Type 0
EndsChanged w before found = (r : ℕ) × (s : ℕ) × (found ≡ before ++ (w, r) ∷ (w, s) ∷ []) × (s ≢ r)

-- the word w of the reservation of line i stood against it
abbrev pub EndsAgainst : GraphValue → ℕ → ℕ → List (ℕ × ℕ) → List (ℕ × ℕ) → Type 0
EndsAgainst g i w before found = ((line_passes is_shared g i ≡ false) × EndsHeld i w before found)
    ⊎ ((line_passes is_shared g i ≡ true) × (EndsAlone w before found ⊎ EndsChanged w before found))

-- what was found ends with another line that has what line i needs. A column is the first that is not to be had: those before it were free.
-- It is not to be had where a word of it was found with another line, or where line i only reads it each share that may be read
abbrev pub IsBusy : GraphValue → ℕ → Thing → List (ℕ × ℕ) → Type 0
IsBusy g i (things.Lock l) found = Acquires g i l × (before : List (ℕ × ℕ)) × EndsAgainst g i (lock_word (size_of g) l) before found
IsBusy g i (things.Column c) found = (k : ℕ) × (a : Access) × (slice_get (accesses g i) k ≡ Some a) × (a.column ≡ c) × (before after : List (ℕ × ℕ)) × (found ≡ before ++ after) × AreFree g i k before × IsAway g i a after

-- the thing is a column
abbrev pub IsColumn : Thing → Type 0
IsColumn (things.Lock l) = ⊥
IsColumn (things.Column c) = Unit {0}

-- in a claim, the seat took all columns of the line
abbrev pub IsLoaded : GraphValue → ℕ → View → Claim → List (ℕ × Content) → Sat → Load → Type 0
IsLoaded g i v cl left m x = (r : ℕ) × (found : List (ℕ × ℕ)) × Loaded g i (looked_at (saw_all v found) i r) cl left m x.held x.numbers

-- or it found one with another line, and has none
abbrev pub IsRefused : GraphValue → ℕ → View → Claim → List (ℕ × Content) → Thing → Sat → Type 0
IsRefused g i v cl left thing m = (found : List (ℕ × ℕ)) × IsBusy g i thing found × (m ≡ (record (saw_all v found) { claim = Some (record cl { columns = []; shares = [] }) }, left)) × IsColumn thing
