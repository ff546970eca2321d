-- What is to be said of words in their places.
use Rattle.std.specs.Prelude.{◌≡◌, ℕ, Bool, true, false, not, ◌&&◌, ◌||◌, List, unwrap_or, is_some, Option, Some, None}
use Rattle.std.specs.List.{list_any}
use Rattle.graph_terms.specs.Graph.{GraphValue}
use Rattle.graph_words.specs.Words.{value_of}
use Rattle.graph_words.specs.Draft.{Placed, number_in_place}
use Rattle.graph_words.specs.Draft as draft
use Rattle.word_meanings.specs.WordFaults.{misnamed, twice, unknown, unlike, misnumbered}
use Rattle.graph_terms.specs.declared.found.Found.{Found}
use Rattle.word_meanings.specs.Lookups.{is_found_inst, is_found_data, is_found_owner}
use Rattle.word_meanings.specs.declared.seen.Seen.{Seen}
use Rattle.word_meanings.specs.declared.faults.Faults.{Faults}
use Rattle.word_meanings.specs.declared.known.Known.{Known}
use Rattle.graph_terms.specs.declared.table.Place as table
use Rattle.graph_terms.specs.declared.table.Place.TheVariants as places

-- the number of a name in its place, and 0 where a value stands there
abbrev pub named_number : GraphValue → draft.Place → List ℕ → ℕ
named_number g draft.Value w = 0
named_number g p w = number_in_place g p w

-- the value in its place, and 0 where a name stands there
abbrev pub placed_value : draft.Place → List ℕ → ℕ
placed_value draft.Value w = unwrap_or (value_of w) 0
placed_value p w = 0

-- what is to be said of a word in its place
pub record Tells (g : GraphValue) (p : draft.Place) (w : List ℕ) (s : Seen) : Type 0 where
  pub misnamed : s.faults.misnamed ≡ misnamed g.format p w
  pub twice : s.faults.twice ≡ twice g p w
  pub unknown : s.faults.unknown ≡ unknown g p w
  pub unlike : s.faults.unlike ≡ unlike g p w
  pub misnumbered : s.faults.misnumbered ≡ misnumbered g.format p w
  pub number : s.number ≡ named_number g p w
  pub value : s.value ≡ placed_value p w

-- what is to be said of words in their places
pub record AllTell (g : GraphValue) (ps : List Placed) (faults : Faults) : Type 0 where
  pub misnamed : faults.misnamed ≡ list_any (λ (p : Placed). misnamed g.format p.0 p.1) ps
  pub twice : faults.twice ≡ list_any (λ (p : Placed). twice g p.0 p.1) ps
  pub unknown : faults.unknown ≡ list_any (λ (p : Placed). unknown g p.0 p.1) ps
  pub unlike : faults.unlike ≡ list_any (λ (p : Placed). unlike g p.0 p.1) ps
  pub misnumbered : faults.misnumbered ≡ list_any (λ (p : Placed). misnumbered g.format p.0 p.1) ps

-- what is said where no reason refuses
abbrev pub no_faults : Faults
no_faults = record { misnamed = false; twice = false; unknown = false; unlike = false; misnumbered = false }

-- a reason refuses the word in its place
abbrev pub is_refused : GraphValue → draft.Place → List ℕ → Bool
is_refused g p w = misnamed g.format p w || (twice g p w || (unknown g p w || (unlike g p w || misnumbered g.format p w)))

-- or one of the words in their places
abbrev pub any_refused : GraphValue → List Placed → Bool
any_refused g ps = list_any (λ (p : Placed). is_refused g p.0 p.1) ps

-- what a word stands for in its place, unless a reason refuses it
abbrev pub IsKnown : GraphValue → draft.Place → List ℕ → Option Known → Type 0
IsKnown g p w None = is_refused g p w ≡ true
IsKnown g p w (Some k) = Tells g p w (record { faults = no_faults; number = k.number; value = k.value })

-- the place of a column of an instance, or of one of data
abbrev pub place_of_column : Bool → draft.Place
place_of_column false = draft.Column
place_of_column true = draft.DataColumn

-- whether an instance or data without a field was found, where there is no such column of the one kind, and as it is said of the other
abbrev pub lacks_found : Bool → Option Found → Bool → Bool
lacks_found hosted o other = (is_found_inst o && (not hosted || not other)) || (is_found_data o && (hosted || not other))

-- what is to be said of a column that there is not, by what was found under the name before the dot
abbrev pub no_column_seen : Bool → Bool → Option Found → Bool → Seen
no_column_seen hosted b o other = record {
  faults = record { misnamed = b; twice = false; unknown = not (is_some o) || lacks_found hosted o other; unlike = not (is_found_owner hosted o); misnumbered = false };
  number = 0;
  value = 0;
}

-- what is to be said of a column that there is
abbrev pub known_column : ℕ → Seen
known_column column = record {
  faults = record { misnamed = false; twice = false; unknown = false; unlike = false; misnumbered = false };
  number = column;
  value = 0;
}

-- a place whose word is the name of one thing
abbrev pub NamesThing : table.Place → Type 0
NamesThing places.Value = ⊥
NamesThing places.Times = ⊥
NamesThing places.Weight = ⊥
NamesThing places.Shared = ⊥
NamesThing (places.Column mode over) = ⊥
NamesThing p = Unit {0}
