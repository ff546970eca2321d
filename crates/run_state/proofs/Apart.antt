-- Lines that are out together conflict only where they are exempt. This rests on the order of lines and on the rules of accepted graphs, and on
-- nothing that a run has of columns.
use Rattle.std.proofs.Common.{◌≡◌, ℕ, true, inl, inr, List, sym, ◌∙◌, subst}
use Rattle.std.proofs.lemmas.Bool.{true≢false}
use Rattle.graph_terms.specs.Graph.{GraphValue}
use Rattle.graph_terms.specs.Access.{is_reduction, Conflict}
use Rattle.graph_meaning.specs.Path.{HasPath}
use Rattle.graph_meaning.specs.Rules.{Exempt, Accepted}
use Rattle.graph_meaning.proofs.Public.{commute_parts, path_or_exempt}
use Rattle.run_state.specs.Run.{LineStage, stage_at, out}
use Rattle.run_state.specs.Sound.{SoundLinesWith}
use Rattle.run_state.specs.Apart.{ConflictOnlyExempt}
use Rattle.run_state.proofs.Lists.{out_started, out_not_ended}
use Rattle.run_state.proofs.Started.{path_ended}
use Rattle.graph_meaning.specs.Effect.{Effects}

-- LINES WITH NO PATH BETWEEN THEM
module _ (g : GraphValue) (accepted : Accepted g) (i j : ℕ) (forth : HasPath g i j → ⊥) (back : HasPath g j i → ⊥) where
  exempt_at : Conflict g i j → Exempt g i j
  exempt_at c = elim (path_or_exempt g accepted i j c) [
    | inl p ↦ absurd (forth p)
    | inr (inl p) ↦ absurd (back p)
    | inr (inr x) ↦ x
  ]

  reduces_at : (c : Conflict g i j) → is_reduction c.one.mode ≡ true
  reduces_at c = (commute_parts c.one.mode c.other.mode ((exempt_at c).commute c.one c.other c.one_in c.other_in c.conflict)).0

  other_reduces_at : (c : Conflict g i j) → is_reduction c.other.mode ≡ true
  other_reduces_at c =
      let parts = commute_parts c.one.mode c.other.mode ((exempt_at c).commute c.one c.other c.one_in c.other_in c.conflict) in
      subst (λ m. is_reduction m ≡ true) parts.1 parts.0

  pub unordered_only_exempt : ConflictOnlyExempt g i j
  unordered_only_exempt = record { reduces = reduces_at; other_reduces = other_reduces_at; are_exempt = exempt_at }

-- LINES THAT ARE OUT: the sources of each have ended, so no path leads from one to the other
no_path_between : {does : Effects} {g : GraphValue} {stages : List LineStage} → SoundLinesWith does g stages → (i j : ℕ) → out stages i ≡ true → out stages j ≡ true → HasPath g i j → ⊥
no_path_between {does} {g} {stages} s i j hi hj p = true≢false (sym (path_ended s i j p (out_started (stage_at stages j) hj)) ∙ out_not_ended (stage_at stages i) hi)

pub out_only_exempt : {does : Effects} {g : GraphValue} {stages : List LineStage} → Accepted g → SoundLinesWith does g stages → (i j : ℕ) → out stages i ≡ true → out stages j ≡ true → ConflictOnlyExempt g i j
out_only_exempt {does} {g} {stages} accepted s i j hi hj = unordered_only_exempt g accepted i j (no_path_between s i j hi hj) (no_path_between s j i hj hi)
