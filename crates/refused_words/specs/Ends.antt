-- The line that has ended an event, or released an acquire.
use Rattle.std.specs.Prelude.{◌≡◌, ℕ, ◌<◌, Bool, true, false, ◌&&◌, List, [], length, Option, Some, None, slice_index_or}
use Rattle.std.specs.Option.{option_map_or}
use Rattle.graph_terms.specs.declared.verb.Verb.{Verb}
use Rattle.graph_terms.specs.Graph.{GraphValue, line_passes, ends_user, is_release_of}
use Rattle.graph_words.specs.Draft.{Place, UserName, AcquireName, line_number}
use Rattle.word_meanings.specs.WordFaults.{twice}
use Rattle.refused_words.specs.Places.{place_at}

-- a line with this verb ends or releases line n, as a word in this place would
abbrev pub ends : Place → ℕ → Verb → Bool
ends UserName n v = ends_user n v
ends AcquireName n v = is_release_of n v
ends _ n v = false

-- the topmost line that does, or none does
abbrev pub IsFirstEnding : GraphValue → Place → ℕ → Option ℕ → Type 0
IsFirstEnding g p n (Some i) = (i < length g.lines) × (line_passes (ends p n) g i ≡ true) × ((j : ℕ) → j < i → line_passes (ends p n) g j ≡ false)
IsFirstEnding g p n None = (j : ℕ) → j < length g.lines → line_passes (ends p n) g j ≡ false

-- line i ends or releases the line that a word names in its place
abbrev pub ends_named : GraphValue → Place → List ℕ → ℕ → Bool
ends_named g p w i = twice g p w && line_passes (ends p (line_number g w)) g i

abbrev pub ends_at : GraphValue → List (List ℕ) → ℕ → ℕ → Bool
ends_at g ws k i = option_map_or (λ p. ends_named g p (slice_index_or ws k []) i) (place_at g.format ws k) false

-- the topmost line that ends or releases what word k names, or none does
abbrev pub IsEndedBy : GraphValue → List (List ℕ) → ℕ → Option ℕ → Type 0
IsEndedBy g ws k (Some i) = (i < length g.lines) × (ends_at g ws k i ≡ true) × ((j : ℕ) → j < i → ends_at g ws k j ≡ false)
IsEndedBy g ws k None = (j : ℕ) → j < length g.lines → ends_at g ws k j ≡ false
