-- The kinds of operation lines as the forms of their words.
use Rattle.std.specs.Prelude.{◌≡◌, ℕ, ◌≤◌, Bool, cond, ◌||◌, List, [], ◌∷◌, ◌++◌, length, map, filter_map, Option, Some, None}
use Rattle.std.specs.List.{list_any}
use Rattle.graph_terms.specs.declared.verb.Line.{Line}
use Rattle.graph_terms.specs.declared.verb.Verb.{Verb}
use Rattle.graph_terms.specs.declared.format.Format.{Format}
use Rattle.graph_terms.specs.declared.why.Why.{Why}
use Rattle.graph_terms.specs.Graph.{GraphValue}
use Rattle.graph_words.specs.Draft.{form_of, form_draft, on_events, on_placed, line_number, Draft, Placed, number_in, words_in}
use Rattle.graph_terms.specs.declared.why.Why.TheVariants as why
use Rattle.graph_terms.specs.Fits.{first_reason, is_used, repeats}
use Rattle.std.specs.Str.{bytes_eq}
use Rattle.word_meanings.specs.WordFaults.{misnamed, twice, unknown, unlike, misnumbered}
use Rattle.graph_reader.specs.FirstFault.{column_word}
use Rattle.graph_terms.specs.declared.table.Kind.{Kind}
use Rattle.word_meanings.specs.declared.faults.Faults.{Faults}
use Rattle.graph_terms.specs.Table.{kind_places}

-- the words of a line of a kind, behind the fixed ones, in their places
abbrev pub kind_draft : GraphValue → Kind → List ℕ → List (List ℕ) → Draft
kind_draft g kind name rest = form_draft g name rest (form_of kind)

-- the words of a kind, each in its place
abbrev pub kind_placed : Kind → List (List ℕ) → List Placed
kind_placed kind ws = words_in (kind_places kind) ws

-- the verb that the words of a kind spell
abbrev pub kind_verb : GraphValue → Kind → List (List ℕ) → Verb
kind_verb g kind ws = (form_of kind).verb (map (number_in g) (kind_placed kind ws))

-- the columns among words in their places
abbrev pub column_words : List Placed → List (List ℕ)
column_words ps = filter_map (λ (p : Placed). column_word p.0 p.1) ps

-- the words of a kind, each in its place, and the events behind `on`
unfoldable pub form_placed : Format → Kind → List (List ℕ) → List Placed
form_placed format kind ws = kind_placed kind ws ++ on_placed format (form_of kind) ws

-- whether one event or one column stands there twice
abbrev pub form_repeats : Format → Kind → List (List ℕ) → Bool
form_repeats format kind ws = repeats bytes_eq (on_events format (form_of kind) ws) || repeats bytes_eq (column_words (kind_placed kind ws))

-- there are as many words as a kind has places
abbrev pub HasPlaces : Kind → List (List ℕ) → Type 0
HasPlaces kind ws = length (form_of kind).places ≤ length ws

-- the lines behind `on`
abbrev pub kind_on : GraphValue → Kind → List (List ℕ) → List ℕ
kind_on g kind ws = map (line_number g) (on_events g.format (form_of kind) ws)

-- the first reason that refuses a word of a line of a kind, whose name is spelled as one
unfoldable pub form_reason : GraphValue → Kind → List ℕ → List (List ℕ) → Option Why
form_reason g kind name ws = first_reason (
    (list_any (λ (p : Placed). misnamed g.format p.0 p.1) (form_placed g.format kind ws), why.Name)
    ∷ (is_used g name || (list_any (λ (p : Placed). twice g p.0 p.1) (form_placed g.format kind ws) || form_repeats g.format kind ws), why.Twice)
    ∷ (list_any (λ (p : Placed). unknown g p.0 p.1) (form_placed g.format kind ws), why.Unknown)
    ∷ (list_any (λ (p : Placed). unlike g p.0 p.1) (form_placed g.format kind ws), why.Kind)
    ∷ (list_any (λ (p : Placed). misnumbered g.format p.0 p.1) (form_placed g.format kind ws), why.Number)
    ∷ [])

-- the first reason that refuses a word of a line but for its spelling and what stands there twice
abbrev pub later_reason : Faults → Option Why
later_reason f = first_reason ((f.unknown, why.Unknown) ∷ (f.unlike, why.Kind) ∷ (f.misnumbered, why.Number) ∷ [])

-- the first reason that refuses a word of a line, which is left open where none does but that the name may be in use
abbrev pub IsFormFault : GraphValue → Kind → List ℕ → List (List ℕ) → Option Why → Type 0
IsFormFault g kind name ws (Some w) = form_reason g kind name ws ≡ Some w
IsFormFault g kind name ws None = form_reason g kind name ws ≡ cond (is_used g name) (Some why.Twice) None

-- the line that words of a kind spell
abbrev pub kind_line : GraphValue → Kind → List ℕ → List (List ℕ) → Line
kind_line g kind name ws = record { name = name; verb = kind_verb g kind ws; on = kind_on g kind ws }
