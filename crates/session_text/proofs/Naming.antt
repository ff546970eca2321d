-- What is found of a name in a graph, and what the line of a link that triggers it is refused for.
use Rattle.std.proofs.Common.{◌≡◌, ℕ, ◌+◌, ◌-◌, ◌<◌, ◌≤◌, Bool, true, false, not, List, [], ◌∷◌, length, refl, sym, ◌∙◌, ap, arith}
use Rattle.std.specs.Prelude.{Option, Some, None, is_some, MatchOption, position, unwrap_or, bytes_eq, count_by, ◌==◌}
use Rattle.std.proofs.lemmas.Bool.{cond-true, cond-false}
use Rattle.std.proofs.lemmas.Option.{none-some, slice_get_within}
use Rattle.std.proofs.lemmas.List.Splits.{length-slice_split}
use Rattle.std.proofs.lemmas.List.Sums.{count_by-le-length}
use Rattle.graph_terms.specs.declared.found.Found.{Found}
use Rattle.graph_terms.specs.declared.found.Found.TheVariants as found
use Rattle.graph_terms.specs.declared.verb.Line.{Line}
use Rattle.graph_terms.specs.declared.verb.Verb.TheVariants.{Trigger}
use Rattle.graph_terms.specs.declared.why.Why.{Why}
use Rattle.graph_terms.specs.declared.why.Why.TheVariants as why
use Rattle.graph_terms.specs.Graph.{GraphValue}
use Rattle.graph_terms.specs.Names.{StandsFor}
use Rattle.graph_terms.specs.Fits.{IsGraph, first_reason, is_used, line_fault}
use Rattle.graph_reader.specs.FirstFault.{FirstFault}
use Rattle.word_meanings.specs.WordFaults.{is_line_name}
use Rattle.graph_reader.specs.Laws.{refused_line, LinesStand}
use Rattle.graph_words.specs.Words.{pieces}
use Rattle.word_meanings.specs.Lookups.{found_line}
use Rattle.word_meanings.proofs.Public.{is_found}
use Rattle.basics.proofs.TestedLists.{position_any}
use Rattle.session_text.specs.declared.entry.Link.{Link}
use Rattle.session_text.specs.Fits.{trigger_line, trigger_reason}

-- what was found of a name
abbrev pub IsLookedUp : GraphValue → List ℕ → Option Found → Type 0
IsLookedUp g w o = MatchOption o (is_used g w ≡ false) (StandsFor g w)

pub used_by : (g : GraphValue) (w : List ℕ) → IsGraph g → (o : Option Found) → IsLookedUp g w o → is_used g w ≡ is_some o
used_by g w f o h = (is_found g w f o h).used

-- the line of this name
abbrev pub place_of : GraphValue → List ℕ → Option ℕ
place_of g w = position (λ (l : Line). bytes_eq l.name w) g.lines

no_line : (o : Option Found) → ((i : ℕ) → o ≡ Some (found.Line i) → ⊥) → found_line o ≡ None
no_line None n = refl
no_line (Some (found.Space s)) n = refl
no_line (Some (found.Inst s)) n = refl
no_line (Some (found.Data s)) n = refl
no_line (Some (found.Lock s)) n = refl
no_line (Some (found.Barrier s)) n = refl
no_line (Some (found.Line i)) n = absurd (n i refl)

pub found_place : (g : GraphValue) (w : List ℕ) → IsGraph g → (o : Option Found) (i : ℕ) → IsLookedUp g w o → o ≡ Some (found.Line i) → place_of g w ≡ Some i
found_place g w f o i h e = (is_found g w f o h).line ∙ ap found_line e

pub no_place : (g : GraphValue) (w : List ℕ) → IsGraph g → (o : Option Found) → IsLookedUp g w o → ((i : ℕ) → o ≡ Some (found.Line i) → ⊥) → place_of g w ≡ None
no_place g w f o h n = (is_found g w f o h).line ∙ no_line o n

pub place_named : (g : GraphValue) (w : List ℕ) → is_line_name g w ≡ is_some (place_of g w)
place_named g w = position_any (λ (l : Line). bytes_eq l.name w) g.lines

-- the line of a link whose user line is there, and the reason for it
pub line_there : (g : GraphValue) (l : Link) (i : ℕ) → place_of g l.user ≡ Some i → (trigger_reason g l ≡ line_fault g (record { name = l.line; verb = Trigger i; on = [] })) × (trigger_line g l ≡ record { name = l.line; verb = Trigger i; on = [] })
line_there g l i h =
    let line : trigger_line g l ≡ record { name = l.line; verb = Trigger i; on = [] } = ap (λ o. record { name = l.line; verb = Trigger (unwrap_or o 0); on = [] }) h in
    (cond-true (is_line_name g l.user) (line_fault g (trigger_line g l)) _ (place_named g l.user ∙ ap (λ (o : Option ℕ). is_some o) h) ∙ ap (line_fault g) line, line)

-- and of one whose user line is not
pub line_not_there : (g : GraphValue) (l : Link) → place_of g l.user ≡ None → trigger_reason g l ≡ first_reason ((is_used g l.line, why.Twice) ∷ (not (is_used g l.user), why.Unknown) ∷ (true, why.Kind) ∷ [])
line_not_there g l h = cond-false (is_line_name g l.user) (line_fault g (trigger_line g l)) _ (place_named g l.user ∙ ap (λ (o : Option ℕ). is_some o) h)

pub never_fits : (a b : Bool) → first_reason ((a, why.Twice) ∷ (b, why.Unknown) ∷ (true, why.Kind) ∷ []) ≡ None → ⊥
never_fits true b h = none-some why.Twice (sym h)
never_fits false true h = none-some why.Unknown (sym h)
never_fits false false h = none-some why.Kind (sym h)

-- a refused line is one of the bytes
pub fault_within : (bytes : List ℕ) (n : ℕ) (w : Why) → LinesStand bytes → FirstFault bytes n w → n ≤ length bytes + 1
fault_within bytes n w lines f =
    let place : n - 1 < length (pieces 10 bytes) = slice_get_within (pieces 10 bytes) (n - 1) (refused_line bytes n w f) (lines.refused n w f) in
    let many : length (pieces 10 bytes) ≡ count_by (λ b. b == 10) bytes + 1 = length-slice_split (λ b. b == 10) bytes in
    let few : count_by (λ b. b == 10) bytes ≤ length bytes = count_by-le-length (λ b. b == 10) bytes in
    omega arith
