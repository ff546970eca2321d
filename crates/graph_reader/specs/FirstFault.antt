-- The first line that is refused, and the first reason that refuses it.
use Rattle.std.specs.Prelude.{◌≡◌, ◌≢◌, ℕ, ◌+◌, ◌≤◌, ◌==◌, ◌⊎◌, nat_lt, Bool, cond, ◌||◌, List, [], ◌∷◌, ◌++◌, length, filter_map, Option, Some, None, codes}
use Rattle.std.specs.Option.{option_map_or}
use Rattle.std.specs.List.{list_any, before_first, after_first}
use Rattle.std.specs.Str.{bytes_eq}
use Rattle.std.proofs.Common.{inl, inr}
use Rattle.graph_terms.specs.Limits.{limits}
use Rattle.graph_terms.specs.declared.format.Format.{Format}
use Rattle.graph_terms.specs.declared.decl.Decl.{Decl}
use Rattle.graph_terms.specs.declared.verb.Line.{Line}
use Rattle.graph_terms.specs.declared.why.Why.{Why}
use Rattle.graph_terms.specs.declared.why.Why.TheVariants as why
use Rattle.graph_terms.specs.Graph.{GraphValue}
use Rattle.graph_terms.specs.Spelling.{head, header}
use Rattle.graph_terms.specs.Fits.{IsGraph, first_reason, repeats, decl_fault, line_fault}
use Rattle.graph_words.specs.Words.{pieces}
use Rattle.graph_words.specs.Draft.{Place, EventName, Column, Draft, draft}
use Rattle.graph_words.specs.Text.{text, bare_of, number_of}
use Rattle.word_meanings.specs.WordFaults.{misnamed, twice, unknown, unlike, misnumbered, misordered}
use Rattle.word_meanings.specs.Words.{is_empty}

-- the words of a kind of place
abbrev pub event_word : Place → List ℕ → Option (List ℕ)
event_word EventName w = Some w
event_word _ w = None

abbrev pub column_word : Place → List ℕ → Option (List ℕ)
column_word Column w = Some w
column_word _ w = None

-- the reason that is left, of the declaration or the line itself
abbrev pub item_fault : GraphValue → Decl ⊎ Line → Option Why
item_fault g (inl d) = decl_fault g d
item_fault g (inr l) = line_fault g l

abbrev pub or_else : Option Why → Option Why → Option Why
or_else None r = r
or_else (Some w) r = Some w

-- the reasons that may refuse the words in their places
abbrev pub draft_tests : GraphValue → Draft → List (Bool × Why)
draft_tests g d =
    (list_any (λ (p : Place × List ℕ). misnamed g.format p.0 p.1) d.placed, why.Name)
    ∷ (
      list_any (λ (p : Place × List ℕ). twice g p.0 p.1) d.placed
          || (repeats bytes_eq (filter_map (λ (p : Place × List ℕ). event_word p.0 p.1) d.placed) || repeats bytes_eq (filter_map (λ (p : Place × List ℕ). column_word p.0 p.1) d.placed)),
      why.Twice,
    )
    ∷ (list_any (λ (p : Place × List ℕ). unknown g p.0 p.1) d.placed, why.Unknown)
    ∷ (list_any (λ (p : Place × List ℕ). unlike g p.0 p.1) d.placed, why.Kind)
    ∷ (list_any (λ (p : Place × List ℕ). misnumbered g.format p.0 p.1) d.placed, why.Number)
    ∷ (list_any (λ (p : Place × List ℕ). misordered p.0 p.1) d.placed, why.Space)
    ∷ []

-- the first reason that refuses the words in their places and what they spell
abbrev pub draft_fault : GraphValue → Draft → Option Why
draft_fault g d = or_else (first_reason (draft_tests g d)) (item_fault g d.item)

-- the first reason that refuses a line of words, an empty word or a form that is none first
abbrev pub words_fault : GraphValue → List (List ℕ) → Option Why
words_fault g ws = cond (list_any is_empty ws) (Some why.Syntax) (option_map_or (draft_fault g) (draft g ws) (Some why.Syntax))

-- the first reason that refuses the line with these bytes, after the text of a graph that is not closed
abbrev pub line_reason : GraphValue → List ℕ → Option Why
line_reason g line = cond (bytes_eq line (codes "end"))
    (cond (nat_lt (limits g.format).text (length (text g))) (Some why.Limit) None)
    (words_fault g (pieces 32 line))

-- whether a line has a newline
abbrev pub has_newline : List ℕ → Bool
has_newline bs = list_any (λ b. b == 10) bs

-- the bytes up to the first newline
abbrev pub first_line : List ℕ → List ℕ
first_line bs = before_first (λ b. b == 10) bs

-- the first reason that refuses the first line of these bytes, after the text of a graph that is not closed
abbrev pub next_reason : GraphValue → List ℕ → Option Why
next_reason g rest = cond (has_newline rest) (line_reason g (first_line rest)) (Some why.Missing)

-- how many lines the text of a graph has before it is closed
abbrev pub line_count : GraphValue → ℕ
line_count g = 1 + length g.decls + length g.lines

-- the bytes do not begin with the first line of a text, whichever its format
abbrev pub HasNoHeader : List ℕ → Type 0
HasNoHeader bytes = (format : Format) (rest : List ℕ) → bytes ≡ header format ++ rest → ⊥

-- the first line is refused
pub record IsHeaderFault (bytes : List ℕ) (number : ℕ) (reason : Why) : Type 0 where
  pub first : number ≡ 1
  pub reason_is : reason ≡ why.Header
  pub no_header : HasNoHeader bytes

-- the lines before this one are the text of a graph that is not closed, and this one is refused after it
pub record IsLineFault (bytes : List ℕ) (number : ℕ) (reason : Why) : Type 0 where
  pub before : GraphValue
  pub rest : List ℕ
  pub is_graph : IsGraph before
  pub begins : bytes ≡ head before ++ rest
  pub number_is : number ≡ line_count before + 1
  pub refused : next_reason before rest ≡ Some reason

-- bytes follow the text of a graph
pub record IsRestFault (bytes : List ℕ) (number : ℕ) (reason : Why) : Type 0 where
  pub before : GraphValue
  pub rest : List ℕ
  pub is_graph : IsGraph before
  pub begins : bytes ≡ text before ++ rest
  pub short : length (text before) ≤ (limits before.format).text
  pub follows : rest ≢ []
  pub number_is : number ≡ line_count before + 2
  pub reason_is : reason ≡ why.Rest

-- the first refused line of bytes without comments, from 1, and its first reason
abbrev pub FirstBareFault : List ℕ → ℕ → Why → Type 0
FirstBareFault bytes number reason = IsHeaderFault bytes number reason ⊎ (IsLineFault bytes number reason ⊎ IsRestFault bytes number reason)

-- the first refused line of these bytes, by its number among all lines, and its first reason
abbrev pub FirstFault : List ℕ → ℕ → Why → Type 0
FirstFault bytes number reason = (k : ℕ) × FirstBareFault (bare_of bytes) k reason × (number ≡ number_of bytes k)

-- the bytes behind the first newline
abbrev pub after_line : List ℕ → List ℕ
after_line bs = after_first (λ b. b == 10) bs
