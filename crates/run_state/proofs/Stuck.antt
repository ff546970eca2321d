-- A state in which nothing is out and nothing can be taken: what stands in the way of a line that is ready is a holder of its reservation.
use Rattle.std.proofs.Common.{◌≡◌, ℕ, ◌<◌, true, false, inl, inr, List, [], ◌∷◌, refl, sym, ◌∙◌, ap, subst}
use Rattle.std.specs.Prelude.{◌≢◌, Option, Some, None}
use Rattle.std.proofs.lemmas.Bool.{true≢false, eq-eqb}
use Rattle.std.proofs.lemmas.Option.{none-some}
use Rattle.graph_terms.specs.declared.verb.Verb.{Verb}
use Rattle.graph_terms.specs.Graph.{GraphValue, verb_at, is_acquire_of}
use Rattle.graph_terms.specs.Reservations.{Acquires}
use Rattle.run_state.specs.Run.{LineStage, Unissued, Issued, Out, Ending, Ended, Run, Had, is_listed, stage_at, place_at, list_at, stage_issued, stage_out, stage_over, stage_ended, started, ended}
use Rattle.run_state.specs.Sound.{IsOpenTo, SoundWith}
use Rattle.run_state.specs.Quiet.{IsFreeWith, StuckWith}
use Rattle.run_state.proofs.Lists.{listed_here, none_listed, started_cases}
use Rattle.graph_terms.proofs.Public.{passes_verb, verb_passes, acquire_one, acquire_some}
use Rattle.graph_meaning.specs.Effect.{Effects}

-- what is left of the stages where no line is out or ending
issued_only : (s : LineStage) → stage_issued s ≡ true → stage_out s ≡ false → (stage_over s ≡ true → stage_ended s ≡ true) → stage_ended s ≡ false → s ≡ Issued
issued_only Unissued i o e l = absurd (true≢false (sym i))
issued_only Issued i o e l = refl
issued_only Out i o e l = absurd (true≢false o)
issued_only (Ending x) i o e l = absurd (true≢false (sym (e refl)))
issued_only (Ended x) i o e l = absurd (true≢false l)

-- a line acquires a reservation that another line holds
abbrev pub Blocked : GraphValue → Run → ℕ → Type 0
Blocked g run m = (l : ℕ) × Acquires g m l × ((h : ℕ) × (is_listed (list_at run.holders l) h ≡ true))

module _ {does : Effects} (g : GraphValue) (run : Run) (s : SoundWith does g run) (k : ℕ) (q : StuckWith does g run k) where
  -- a line that was taken is ended
  pub stuck_ended : (i : ℕ) → started run.stages i ≡ true → ended run.stages i ≡ true
  stuck_ended i h = elim (started_cases (stage_at run.stages i) h) [
    | inl o ↦ absurd (true≢false (sym o ∙ q.none_out i))
    | inr o ↦ q.none_ending i o
  ]

  -- a line that is left is issued
  pub stuck_issued : (i : ℕ) → i < k → ended run.stages i ≡ false → stage_at run.stages i ≡ Issued
  stuck_issued i h left = issued_only (stage_at run.stages i) (q.first_issued i h) (q.none_out i) (q.none_ending i) left

  -- all columns are at home
  pub stuck_home : (c i : ℕ) → place_at run.places c ≢ Had i
  stuck_home c i e = true≢false (sym (s.on_columns.had_out c i e) ∙ q.none_out i)

  holder_of : (l m : ℕ) (ks : List ℕ) → list_at run.holders l ≡ ks → (IsOpenTo g run.holders l m → ⊥) → (h : ℕ) × (is_listed (list_at run.holders l) h ≡ true)
  holder_of l m [] e ne = absurd (ne (λ h held. absurd (none_listed h (ap (λ ks. is_listed ks h) (sym e) ∙ held))))
  holder_of l m (h ∷ hs) e ne = (h, ap (λ ks. is_listed ks h) e ∙ listed_here h hs)

  blocked_by : (m : ℕ) → (IsFreeWith does g run m → ⊥) → (o : Option Verb) → verb_at g m ≡ o → Blocked g run m
  blocked_by m not_free None e = absurd (not_free (inr ((λ l b. let v = passes_verb (is_acquire_of l) g m b in absurd (none-some v.0 (sym e ∙ v.1))), λ c x j. stuck_home c j)))
  blocked_by m not_free (Some v) e = elim (acquire_some v) [
    | inl a ↦ (
        let own : Acquires g m a.0 = verb_passes (is_acquire_of a.0) g m v e ∙ (ap (is_acquire_of a.0) a.2 ∙ eq-eqb a.0 a.0 refl) in
        (a.0, own, holder_of a.0 m (list_at run.holders a.0) refl (λ z. not_free (inr ((λ l b. subst (λ x. IsOpenTo g run.holders x m) (sym (acquire_one g m l a.0 b own)) z), λ c x j. stuck_home c j)))))
    | inr n ↦ absurd (not_free (inr ((λ l b. absurd (n l (sym (verb_passes (is_acquire_of l) g m v e) ∙ b))), λ c x j. stuck_home c j)))
  ]

  -- a line that is not free acquires a reservation that is held
  pub blocked : (m : ℕ) → (IsFreeWith does g run m → ⊥) → Blocked g run m
  blocked m not_free = blocked_by m not_free (verb_at g m) refl
