-- The first line of bytes that is refused as that of a session's text, and the first reason that refuses it.
use Rattle.std.specs.Prelude.{◌≡◌, ◌≢◌, ℕ, ◌+◌, ◌==◌, ◌⊎◌, Bool, true, cond, ◌&&◌, List, [], ◌∷◌, ◌++◌, length, Option, Some, None, codes, slice_index_or}
use Rattle.std.specs.List.{list_any}
use Rattle.std.specs.Str.{bytes_eq}
use Rattle.graph_terms.specs.declared.why.Why.{Why}
use Rattle.graph_terms.specs.declared.why.Why.TheVariants as why
use Rattle.graph_terms.specs.declared.format.Format.{Format}
use Rattle.graph_terms.specs.declared.format.Format.TheVariants.{One}
use Rattle.graph_terms.specs.Graph.{GraphValue}
use Rattle.graph_words.specs.Words.{pieces}
use Rattle.graph_reader.specs.FirstFault.{has_newline, first_line, FirstFault}
use Rattle.word_meanings.specs.Words.{is_empty}
use Rattle.graph_reader.specs.declared.ReadRefusal.{ReadRefusal}
use Rattle.graph_reader.specs.declared.ReadRefusal.TheVariants as refusals
use Rattle.realm_audit.specs.Parts.{graph_bytes}
use Rattle.session_text.specs.declared.entry.Link.{Link}
use Rattle.session_text.specs.declared.entry.Entry.{Entry}
use Rattle.session_text.specs.Session.{graph_line, first_text, closing, GraphStands, HeadStands, BeginsAt}
use Rattle.session_text.specs.Fits.{AreEntries, format_of, is_named, is_large, bare_entry, graph_reason, link_reason}

-- the word at a place
abbrev pub word_at : List (List ℕ) → ℕ → List ℕ
word_at ws i = slice_index_or ws i []

-- words that are the line before a graph's text, and the line of a link
abbrev pub is_graph_line : List (List ℕ) → Bool
is_graph_line ws = length ws == 2 && bytes_eq (word_at ws 0) (codes "graph")

abbrev pub is_link_line : List (List ℕ) → Bool
is_link_line ws = length ws == 5 && bytes_eq (word_at ws 0) (codes "link")

-- the link of such a line
abbrev pub link_of : List (List ℕ) → Link
link_of ws = record { line = word_at ws 1; user = word_at ws 2; graph = word_at ws 3; op = word_at ws 4 }

-- the graphs before the last, and the last where there is one
abbrev pub with_last : List Entry → Option Entry → List Entry
with_last before None = before
with_last before (Some e) = before ++ e ∷ []

-- the format of the last graph, and format 1 where there is none
abbrev pub last_format : Option Entry → Format
last_format None = One
last_format (Some e) = e.graph.format

-- a link has no earlier graph to name where none was read
abbrev pub last_reason : List Entry → Option Entry → Link → Option Why
last_reason before None l = cond (is_named One (format_of before l.graph) l) (Some why.Unknown) (Some why.Name)
last_reason before (Some e) l = link_reason before e l

-- the first reason that refuses a line of these words
abbrev pub words_reason : List Entry → Option Entry → List (List ℕ) → Option Why
words_reason before last ws = cond (list_any is_empty ws) (Some why.Syntax)
    (cond (is_graph_line ws) (graph_reason (with_last before last) (word_at ws 1))
    (cond (is_link_line ws) (last_reason before last (link_of ws)) (Some why.Syntax)))

abbrev pub line_reason : List Entry → Option Entry → List ℕ → Option Why
line_reason before last line = cond (bytes_eq line (codes "close")) None (words_reason before last (pieces 32 line))

-- the first reason that refuses the first line of these bytes
abbrev pub next_reason : List Entry → Option Entry → List ℕ → Option Why
next_reason before last rest = cond (has_newline rest) (line_reason before last (first_line rest)) (Some why.Missing)

-- the first line is refused
pub record IsHeaderFault (bytes : List ℕ) (number : ℕ) (reason : Why) : Type 0 where
  pub first : number ≡ 1
  pub reason_is : reason ≡ why.Header
  pub no_header : (rest : List ℕ) → bytes ≡ first_text ++ rest → ⊥

-- a line between the texts of graphs is refused
pub record IsLineFault (bytes : List ℕ) (number : ℕ) (reason : Why) : Type 0 where
  pub before : List Entry
  pub last : Option Entry
  pub rest : List ℕ
  pub first : last ≡ None → before ≡ []
  pub are_entries : AreEntries (with_last before last)
  pub begins : HeadStands bytes (with_last before last) rest
  pub number_is : BeginsAt bytes rest number
  pub refused : next_reason before last rest ≡ Some reason

-- a line of a graph's text is refused, which is the bytes up to the first line that is exactly `end`, or all that is left
pub record IsGraphFault (bytes : List ℕ) (number : ℕ) (reason : Why) : Type 0 where
  pub before : List Entry
  pub name : List ℕ
  pub rest : List ℕ
  pub are_entries : AreEntries before
  pub named : graph_reason before name ≡ None
  pub begins : HeadStands bytes before (graph_line name ++ rest)
  pub above : ℕ
  pub above_is : BeginsAt bytes (graph_line name ++ rest) above
  pub inside : ℕ
  pub fault : FirstFault (graph_bytes rest) inside reason
  pub number_is : number ≡ above + inside

-- with the last line of a graph's text a sum over all graphs is passed
pub record IsSumFault (bytes : List ℕ) (number : ℕ) (reason : Why) : Type 0 where
  pub before : List Entry
  pub name : List ℕ
  pub graph : GraphValue
  pub from : List ℕ
  pub rest : List ℕ
  pub are_entries : AreEntries before
  pub named : graph_reason before name ≡ None
  pub begins : HeadStands bytes before from
  pub stands : GraphStands from name graph rest
  pub passed : is_large (before ++ bare_entry name graph ∷ []) ≡ true
  pub number_is : BeginsAt bytes rest (number + 1)
  pub reason_is : reason ≡ why.Limit

-- bytes follow the text of a session
pub record IsRestFault (bytes : List ℕ) (number : ℕ) (reason : Why) : Type 0 where
  pub before : List Entry
  pub rest : List ℕ
  pub are_entries : AreEntries before
  pub begins : HeadStands bytes before (closing ++ rest)
  pub follows : rest ≢ []
  pub number_is : BeginsAt bytes rest number
  pub reason_is : reason ≡ why.Rest

-- the first refused line of these bytes, from 1, and its first reason
abbrev pub SessionFault : List ℕ → ℕ → Why → Type 0
SessionFault bytes number reason = IsHeaderFault bytes number reason ⊎ (IsLineFault bytes number reason
    ⊎ (IsGraphFault bytes number reason ⊎ (IsSumFault bytes number reason ⊎ IsRestFault bytes number reason)))

-- the refusal names the first refused line and its first reason
abbrev pub IsRefusal : List ℕ → ReadRefusal → Type 0
IsRefusal bytes (refusals.Line number reason) = SessionFault bytes number reason
IsRefusal bytes refusals.NoMemory = Unit {0}
