-- The effects of a graph's verbs keep to its columns, and so they do where calls fault; what keeps to columns keeps to accesses.
use Rattle.std.proofs.Common.{◌≡◌, ℕ, List, Bool, true, false, refl, sym, ◌∙◌, ap, subst}
use Rattle.std.specs.Prelude.{Contains, cond, ◌&&◌, Option, Some}
use Rattle.std.specs.Option.{option_map_or}
use Rattle.std.proofs.lemmas.Bool.{true≢false, and_parts}
use Rattle.basics.proofs.ListFacts.{contains_none}
use Rattle.graph_terms.specs.declared.outcome.Verdict.TheVariants.{Fine}
use Rattle.graph_terms.specs.declared.verb.Verb.{Verb}
use Rattle.graph_terms.specs.declared.verb.Verb.TheVariants.{Acquire}
use Rattle.graph_terms.specs.Access.{accesses}
use Rattle.graph_terms.specs.Graph.{GraphValue, space_at, verb_at, is_call, line_passes, is_acquire_of, is_shared}
use Rattle.graph_terms.specs.Reservations.{Acquires}
use Rattle.graph_terms.proofs.Public.{acquire_of_is, passes_verb, verb_passes}
use Rattle.graph_meaning.specs.Effect.{Cells, CellChange, Effects, effect, verb_verdict}
use Rattle.graph_meaning.specs.Laws.{IsWithinAccess, KeepsToAccesses}
use Rattle.graph_meaning.proofs.Public.{accesses_are_among_all}
use Rattle.run_state.specs.Laws.{VerbsKeepToColumns, FaultsKeepToColumns}
use Rattle.run_state.specs.Verdicts.{KeepsToColumns, faulted, effect_by}
use Rattle.run_state.proofs.Evaluated.{line_within, verbs_agree}

pub keeps_to_accesses : {g : GraphValue} {does : Effects} → KeepsToColumns g does → KeepsToAccesses g does
keeps_to_accesses {g} {does} k = record {
  within = λ i cells x h. let w = k.within i cells x h in record { access = w.access; listed = accesses_are_among_all g i w.access w.listed; column = w.column; point = w.point; mode = w.mode };
  agrees = λ i cells others h. k.agrees i cells others (λ a ha. h a (accesses_are_among_all g i a ha));
}

-- an acquire is fine
verdict_of : (space : ℕ → List (ℕ × ℕ)) (cells : Cells) (o : Option Verb) (l : ℕ) (shared : Bool) → o ≡ Some (Acquire l shared) → option_map_or (verb_verdict space cells) o Fine ≡ Fine
verdict_of space cells o l shared e = ap (λ (x : Option Verb). option_map_or (verb_verdict space cells) x Fine) e

acquire_fine : (g : GraphValue) (q l : ℕ) (cells : Cells) → Acquires g q l → (effect g q cells).verdict ≡ Fine
acquire_fine g q l cells a =
    let v = passes_verb (is_acquire_of l) g q a in
    verdict_of (space_at g) cells (verb_at g q) l (is_shared v.0) (v.1 ∙ ap Some (acquire_of_is l v.0 v.2))

pub verbs_keep_to_columns : VerbsKeepToColumns
verbs_keep_to_columns g = record { within = line_within g; agrees = verbs_agree g; acquires = acquire_fine g }

-- a call acquires nothing
call_no_acquire : (g : GraphValue) (q l : ℕ) → Acquires g q l → line_passes is_call g q ≡ true → ⊥
call_no_acquire g q l a c =
    let v = passes_verb (is_acquire_of l) g q a in
    true≢false (sym c ∙ (verb_passes is_call g q v.0 v.1 ∙ ap is_call (acquire_of_is l v.0 v.2)))

-- by whether it is a call that faults
fault_within : (g : GraphValue) (i : ℕ) (cells : Cells) (x : CellChange) (b : Bool) → Contains (cond b faulted (effect g i cells)).changes x → IsWithinAccess (space_at g) (accesses g i) x
fault_within g i cells x true h = absurd (contains_none x h)
fault_within g i cells x false h = line_within g i cells x h

fault_fine : (g : GraphValue) (q l : ℕ) (cells : Cells) → Acquires g q l → (f c : Bool) → line_passes is_call g q ≡ c → (cond (f && c) faulted (effect g q cells)).verdict ≡ Fine
fault_fine g q l cells a true true e = absurd (call_no_acquire g q l a e)
fault_fine g q l cells a true false e = acquire_fine g q l cells a
fault_fine g q l cells a false c e = acquire_fine g q l cells a

pub faults_keep_to_columns : FaultsKeepToColumns
faults_keep_to_columns faults g = record {
  within = λ i cells x h. fault_within g i cells x (faults i && line_passes is_call g i) h;
  agrees = λ i cells others h. ap (cond (faults i && line_passes is_call g i) faulted) (verbs_agree g i cells others h);
  acquires = λ q l cells a. fault_fine g q l cells a (faults q) (line_passes is_call g q) refl;
}
