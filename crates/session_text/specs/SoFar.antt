-- What a reader keeps of the graphs and links so far.
use Rattle.std.specs.Prelude.{◌≡◌, ℕ, ◌+◌, ◌<◌, length, Bool, true, false, cond, List, [], ◌∷◌, ◌++◌, map, Option, Some, None, codes}
use Rattle.std.specs.Str.{bytes_eq}
use Rattle.graph_terms.specs.declared.why.Why.{Why}
use Rattle.graph_terms.specs.declared.why.Why.TheVariants as why
use Rattle.graph_terms.specs.Graph.{GraphValue}
use Rattle.graph_reader.specs.declared.ReadRefusal.{ReadRefusal}
use Rattle.graph_reader.specs.declared.ReadRefusal.TheVariants as refusals
use Rattle.graph_words.specs.Text.{GraphText}
use Rattle.graph_words.specs.Words.{pieces}
use Rattle.graph_reader.specs.FirstFault.{has_newline, first_line, or_else, FirstFault}
use Rattle.graph_reader.specs.Reading.{after_line}
use Rattle.realm_audit.specs.Parts.{newlines, graph_bytes, trace_bytes}
use Rattle.session_text.specs.declared.entry.Entry.{Entry}
use Rattle.session_text.specs.declared.entry.Link.{Link}
use Rattle.session_text.specs.declared.so_far.Last.{Last}
use Rattle.session_text.specs.declared.so_far.SoFar.{SoFar}
use Rattle.session_text.specs.Session.{graph_line, HeadStands, BeginsAt}
use Rattle.session_text.specs.Fits.{bare_entry, AreEntries, with_trigger, with_triggers, with_link, trigger_reason, all_lines, all_cells, is_large}
use Rattle.session_text.specs.FirstFault.{with_last, IsRefusal}

abbrev pub last_entry : Option Last → Option Entry
last_entry None = None
last_entry (Some l) = Some l.entry

-- the graphs so far
abbrev pub entries_in : SoFar → List Entry
entries_in s = with_last s.before.items (last_entry s.last)

-- a graph with its links as triggers
abbrev pub judged_of : Entry → GraphValue
judged_of e = with_triggers e.graph e.links

-- the graphs so far, as they are kept with their links as triggers
abbrev pub with_judged : List GraphValue → Option Last → List GraphValue
with_judged before None = before
with_judged before (Some l) = before ++ l.judged ∷ []

abbrev pub judged_in : SoFar → List GraphValue
judged_in s = with_judged s.judged.items s.last

-- the last graph with its links as triggers
abbrev pub IsJudged : Option Last → Type 0
IsJudged None = Unit {0}
IsJudged (Some l) = l.judged ≡ judged_of l.entry

pub record IsSoFar (s : SoFar) : Type 0 where
  pub first : last_entry s.last ≡ None → s.before.items ≡ []
  pub entries : AreEntries (entries_in s)
  pub judged : IsJudged s.last
  pub judged_before : s.judged.items ≡ map judged_of s.before.items
  pub lines : s.lines ≡ all_lines (entries_in s)
  pub cells : s.cells ≡ all_cells (entries_in s)
  pub short : is_large (entries_in s) ≡ false

-- the bytes are the text of the graphs so far and what is left, whose first line has this number
pub record HasRead (bytes : List ℕ) (s : SoFar) (rest : List ℕ) (number : ℕ) : Type 0 where
  pub is_so_far : IsSoFar s
  pub begins : HeadStands bytes (entries_in s) rest
  pub number_is : BeginsAt bytes rest number

-- the bytes begin with a line of these words, which is not the closing one, and go on so behind it
pub record IsLineAt (rest : List ℕ) (ws : List (List ℕ)) (after : List ℕ) : Type 0 where
  pub there : has_newline rest ≡ true
  pub no_close : bytes_eq (first_line rest) (codes "close") ≡ false
  pub words_are : pieces 32 (first_line rest) ≡ ws
  pub after_is : after_line rest ≡ after

-- where the bytes were read up to this line, they are read on to there, or are refused so
abbrev pub ReadsOn : SoFar → List (List ℕ) → List ℕ → ℕ → SoFar → List ℕ → ℕ → Type 0
ReadsOn old ws after number new left next = (bytes rest : List ℕ) → HasRead bytes old rest number → IsLineAt rest ws after → HasRead bytes new left next

abbrev pub RefusedThere : SoFar → List (List ℕ) → List ℕ → ℕ → ReadRefusal → Type 0
RefusedThere old ws after number e = (bytes rest : List ℕ) → HasRead bytes old rest number → IsLineAt rest ws after → IsRefusal bytes e

-- a line of the text of a graph is refused that stands behind a line of this number
abbrev pub IsRefusedBehind : List ℕ → ℕ → ReadRefusal → Type 0
IsRefusedBehind bytes number (refusals.Line n w) = (inside : ℕ) × FirstFault bytes inside w × (n ≡ number + inside)
IsRefusedBehind bytes number refusals.NoMemory = Unit {0}

-- the first reason that refuses a link after the last graph, where there is room for one line more or none
abbrev pub added_reason : Last → Link → Bool → Option Why
added_reason last l has_room = or_else (trigger_reason last.judged l) (cond has_room None (Some why.Limit))

-- one link more in the last graph
pub record AddsLink (old : Last) (l : Link) (new : Last) : Type 0 where
  pub entry : new.entry ≡ with_link old.entry l
  pub judged : new.judged ≡ with_trigger old.judged l

-- a link can be counted in the last graph
abbrev pub AllowsLink : Option Last → Type 0
AllowsLink None = Unit {0}
AllowsLink (Some l) = length l.entry.links < 4294967295

-- one link more in the last graph, where no reason refuses it
abbrev pub LastAdded : Option Last → Link → Bool → Option Last → Type 0
LastAdded None l has_room new = Unit {0}
LastAdded (Some old) l has_room new = added_reason old l has_room ≡ None → (last : Last) × (new ≡ Some last) × AddsLink old l last

-- one link more in the last graph of those so far
pub record LinkAdded (old : SoFar) (l : Link) (new : SoFar) : Type 0 where
  pub last_old : Last
  pub last_new : Last
  pub was : old.last ≡ Some last_old
  pub is : new.last ≡ Some last_new
  pub adds : AddsLink last_old l last_new
  pub before : new.before.items ≡ old.before.items
  pub judged : new.judged.items ≡ old.judged.items
  pub lines : new.lines ≡ old.lines + 1
  pub cells : new.cells ≡ old.cells

-- one graph more at the end, with which there are so many lines and cells
pub record GraphAdded (old : SoFar) (last : Last) (lines cells : ℕ) (new : SoFar) : Type 0 where
  pub before : new.before.items ≡ entries_in old
  pub judged : new.judged.items ≡ judged_in old
  pub is : new.last ≡ Some last
  pub lines_are : new.lines ≡ lines
  pub cells_are : new.cells ≡ cells

-- where the bytes were read up to the line before a graph of this name, they are read on to there, or are refused so
abbrev pub GraphTaken : SoFar → List ℕ → List ℕ → ℕ → SoFar → List ℕ → ℕ → Type 0
GraphTaken old name behind number new left next = (bytes : List ℕ) → HasRead bytes old (graph_line name ++ behind) number → HasRead bytes new left next

abbrev pub GraphRefused : SoFar → List ℕ → List ℕ → ℕ → ReadRefusal → Type 0
GraphRefused old name behind number e = (bytes : List ℕ) → HasRead bytes old (graph_line name ++ behind) number → IsRefusal bytes e

-- a graph as it is read, before any link
abbrev pub bare_last : List ℕ → GraphValue → Last
bare_last name g = record { entry = bare_entry name g; judged = g }

-- the same where the text of that graph was read, which has so many lines, and behind which these bytes are left
abbrev pub LastTaken : SoFar → Last → ℕ → List ℕ → ℕ → SoFar → List ℕ → ℕ → Type 0
LastTaken old last lines after number new left next = (bytes behind : List ℕ) → HasRead bytes old (graph_line last.entry.name ++ behind) number → GraphText (graph_bytes behind) last.entry.graph → lines ≡ newlines (graph_bytes behind) → after ≡ trace_bytes behind
    → HasRead bytes new left next

abbrev pub LastRefused : SoFar → Last → ℕ → ℕ → ReadRefusal → Type 0
LastRefused old last lines number e = (bytes behind : List ℕ) → HasRead bytes old (graph_line last.entry.name ++ behind) number → GraphText (graph_bytes behind) last.entry.graph → lines ≡ newlines (graph_bytes behind) → IsRefusal bytes e
