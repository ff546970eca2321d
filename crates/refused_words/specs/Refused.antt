-- The first word of a line that a reason refuses.
use Rattle.std.specs.Prelude.{◌≡◌, ℕ, ◌<◌, ◌⊎◌, nat_eq, Bool, true, false, not, ◌&&◌, ◌||◌, List, [], length, Option, Some, None, is_some, slice_index_or}
use Rattle.std.specs.List.{list_any}
use Rattle.std.specs.Option.{option_map_or}
use Rattle.std.specs.Str.{bytes_eq}
use Rattle.std.proofs.Common.{inl, inr}
use Rattle.graph_terms.specs.declared.decl.Decl.{Decl}
use Rattle.graph_terms.specs.declared.format.Format.{Format}
use Rattle.graph_terms.specs.declared.verb.Access.{Access}
use Rattle.graph_terms.specs.declared.verb.Line.{Line}
use Rattle.graph_terms.specs.declared.why.Why.{Why}
use Rattle.graph_terms.specs.declared.why.Why.TheVariants as reasons
use Rattle.graph_terms.specs.Graph.{GraphValue}
use Rattle.graph_terms.specs.Access.{verb_accesses}
use Rattle.graph_terms.specs.Fits.{access_outside, data_outside}
use Rattle.graph_words.specs.Words.{pieces}
use Rattle.graph_words.specs.Draft.{Place, PhaseName, EventName, Column, DataColumn, Draft, draft, column_number_of}
use Rattle.word_meanings.specs.WordFaults.{misnamed, twice, unknown, unlike, misnumbered, misordered}
use Rattle.word_meanings.specs.declared.faults.Faults.{Faults}
use Rattle.refused_words.specs.Meets.{access_at, met_word}
use Rattle.refused_words.specs.Places.{place_at}

abbrev pub is_phase_name : Place → Bool
is_phase_name PhaseName = true
is_phase_name _ = false

-- a reason speaks of a word in its place; too many arrivals are those of the phase that is named
abbrev pub refuses : GraphValue → Why → Place → List ℕ → Bool
refuses g reasons.Name p w = misnamed g.format p w
refuses g reasons.Twice p w = twice g p w && not (misnamed g.format p w)
refuses g reasons.Unknown p w = unknown g p w
refuses g reasons.Kind p w = unlike g p w
refuses g reasons.Number p w = misnumbered g.format p w
refuses g reasons.Space p w = misordered p w
refuses g reasons.Arrivals p w = is_phase_name p
refuses g _ p w = false

-- the same of what is to be said of a word that names one thing
abbrev pub names_fault : Why → Faults → Bool
names_fault reasons.Name f = f.misnamed
names_fault reasons.Unknown f = f.unknown
names_fault reasons.Kind f = f.unlike
names_fault _ f = false

-- the columns that a line uses, each over a space, but for a call; a declaration uses none
abbrev pub item_accesses : Decl ⊎ Line → List Access
item_accesses (inl d) = []
item_accesses (inr l) = verb_accesses l.verb

abbrev pub draft_accesses : Option Draft → List Access
draft_accesses o = option_map_or (λ (d : Draft). item_accesses d.item) o []

-- a use of this column over a space that has points which its own has not
abbrev pub leaves_column : GraphValue → ℕ → Access → Bool
leaves_column g column a = nat_eq a.column column && access_outside g a

-- the line of these words uses the column that word k names so: a call in the access that this word is part of, any other line wherever it names the column.
-- Or the access that word k is part of meets one before it in the call, and may not
abbrev pub clashes : GraphValue → List (List ℕ) → Why → Place → ℕ → Bool
clashes g ws reasons.Outside Column k = list_any (leaves_column g (column_number_of g (pieces 46 (slice_index_or ws k [])))) (draft_accesses (draft g ws))
clashes g ws reasons.Outside DataColumn k = option_map_or (data_outside g) (access_at g ws k) false
clashes g ws reasons.Meets DataColumn k = is_some (met_word g ws k)
clashes g ws _ p k = false

abbrev pub refuses_in : GraphValue → List (List ℕ) → Why → Place → ℕ → Bool
refuses_in g ws reason p k = refuses g reason p (slice_index_or ws k []) || clashes g ws reason p k

abbrev pub refuses_at : GraphValue → Why → List (List ℕ) → ℕ → Bool
refuses_at g reason ws k = option_map_or (λ p. refuses_in g ws reason p k) (place_at g.format ws k) false

-- two events, or two columns
abbrev pub is_event : Option Place → Bool
is_event (Some EventName) = true
is_event _ = false

abbrev pub is_column : Option Place → Bool
is_column (Some Column) = true
is_column _ = false

abbrev pub same_list : Option Place → Option Place → Bool
same_list p q = (is_event p && is_event q) || (is_column p && is_column q)

-- word k stands before it in the line as an event, or as a column, too
abbrev pub StandsBefore : Format → List (List ℕ) → ℕ → Type 0
StandsBefore format ws k = (j : ℕ) × (j < k) × (same_list (place_at format ws j) (place_at format ws k) ≡ true) × (bytes_eq (slice_index_or ws j []) (slice_index_or ws k []) ≡ true)

-- for Twice a word that does, the first or none
abbrev pub IsRepeat : Format → Why → List (List ℕ) → ℕ → Type 0
IsRepeat format reason ws k = (reason ≡ reasons.Twice) × StandsBefore format ws k

abbrev pub IsFirstRepeat : Format → Why → List (List ℕ) → Option ℕ → Type 0
IsFirstRepeat format reason ws (Some k) = (k < length ws) × IsRepeat format reason ws k × ((j : ℕ) → j < k → IsRepeat format reason ws j → ⊥)
IsFirstRepeat format reason ws None = (j : ℕ) → j < length ws → IsRepeat format reason ws j → ⊥

-- a reason refuses word k
abbrev pub IsRefusedAt : GraphValue → Why → List (List ℕ) → ℕ → Type 0
IsRefusedAt g reason ws k = (refuses_at g reason ws k ≡ true) ⊎ IsRepeat g.format reason ws k

-- word k is the first, or none is refused
abbrev pub IsRefusedWord : GraphValue → Why → List (List ℕ) → Option ℕ → Type 0
IsRefusedWord g reason ws (Some k) = (k < length ws) × IsRefusedAt g reason ws k × ((j : ℕ) → j < k → IsRefusedAt g reason ws j → ⊥)
IsRefusedWord g reason ws None = (j : ℕ) → j < length ws → IsRefusedAt g reason ws j → ⊥
