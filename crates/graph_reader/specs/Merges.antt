-- Merges of the lines that words name.
use Rattle.std.specs.Prelude.{◌≡◌, ℕ, Bool, true, false, not, ◌||◌, List, [], ◌∷◌, map, Option, Some}
use Rattle.std.specs.List.{list_any, list_all}
use Rattle.std.specs.Str.{bytes_eq}
use Rattle.graph_terms.specs.declared.verb.Line.{Line}
use Rattle.graph_terms.specs.declared.verb.Verb.{Verb}
use Rattle.graph_terms.specs.declared.verb.Verb.TheVariants.{Merge, MergeIgnore}
use Rattle.graph_terms.specs.declared.why.Why.{Why}
use Rattle.graph_terms.specs.declared.why.Why.TheVariants as why
use Rattle.graph_terms.specs.Graph.{GraphValue}
use Rattle.graph_terms.specs.Name.{is_name_in}
use Rattle.graph_terms.specs.Fits.{first_reason, repeats, is_used}
use Rattle.graph_words.specs.Draft.{line_number}
use Rattle.word_meanings.specs.WordFaults.{is_line_name}
use Rattle.graph_reader.specs.declared.item.ItemError.{ItemError}
use Rattle.graph_reader.specs.declared.item.ItemError.TheVariants as errors

-- a merge, or one that ignores faults
abbrev pub merge_verb : Bool → List ℕ → Verb
merge_verb true events = MergeIgnore events
merge_verb false events = Merge events

-- the line of a merge
abbrev pub merge_line : GraphValue → Bool → List ℕ → List (List ℕ) → Line
merge_line g ignores name es = record { name = name; verb = merge_verb ignores (map (line_number g) es); on = [] }

-- whether all of the words name lines
abbrev pub all_lines : GraphValue → List (List ℕ) → Bool
all_lines g es = list_all (is_line_name g) es

-- the first reason that refuses the words of a merge, whose name is spelled as one
unfoldable pub merge_reason : GraphValue → List ℕ → List (List ℕ) → Option Why
merge_reason g name es = first_reason (
    (not (list_all (is_name_in g.format) es), why.Name)
    ∷ (is_used g name || repeats bytes_eq es, why.Twice)
    ∷ (list_any (λ w. not (is_used g w)) es, why.Unknown)
    ∷ (list_any (λ w. not (is_line_name g w)) es, why.Kind)
    ∷ [])

-- what refuses the words of a merge
abbrev pub IsMergeError : GraphValue → List ℕ → List (List ℕ) → ItemError → Type 0
IsMergeError g name es (errors.Refused w) = merge_reason g name es ≡ Some w
IsMergeError g name es errors.NoMemory = Unit {0}
