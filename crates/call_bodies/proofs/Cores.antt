-- What the steps of a core do to the stages of lines.
use Rattle.std.proofs.Common.{◌≡◌, ℕ, ◌+◌, ◌<◌, Bool, true, false, ◌&&◌, ◌⊎◌, inl, inr, List, length, refl, sym, ◌∙◌, ap, subst, arith}
use Rattle.std.specs.Prelude.{◌≢◌, ◌↔◌, Option, slice_set}
use Rattle.std.proofs.lemmas.Bool.{true≢false, cases_eq, cases_Bool}
use Rattle.std.proofs.lemmas.List.{get_or-set_same, get_or-set_other, set-set}
use Rattle.basics.proofs.ListFacts.{map_contains, got_contains}
use Rattle.graph_terms.specs.declared.outcome.End.{End}
use Rattle.graph_terms.specs.declared.outcome.End.TheVariants.{Done, Faulted, Cancelled, Waiting}
use Rattle.graph_terms.specs.declared.verb.Access.{Access}
use Rattle.graph_terms.specs.Graph.{GraphValue}
use Rattle.graph_terms.specs.Access.{accesses}
use Rattle.graph_meaning.specs.Effect.{zero_cells}
use Rattle.graph_meaning.specs.Evaluation.{end_with}
use Rattle.run_state.specs.Run.{LineStage, Unissued, Issued, Out, Ending, Ended, Run, stage_at, stage_issued, kept_end, end_so_far, issued}
use Rattle.run_state.specs.Quiet.{kept_cancels}
use Rattle.run_state.proofs.Public.{stage_there}
use Rattle.run_state.specs.Moves.{claim}
use Rattle.run_state.specs.Verdicts.{effect_by}
use Rattle.run_state.specs.WholeLine.{column_list}
use Rattle.run_state.specs.Sharing.{take_sharing}
use Rattle.lent_columns.specs.Lendings.{Lending}
use Rattle.run_state.specs.Laws.{CancelledByKeptEnds}
use Rattle.run_core.specs.Core.{CoreValue, IsCore, MayFault, Tells, kept_faults, has_faulted}
use Rattle.run_core.specs.Works.{WorkValue, FinishedValue}
use Rattle.run_core.specs.Steps.{IsHeldBy, StandsBy, with_run, with_lendings, Takes, Attempts, with_end}
use Rattle.run_core.specs.Finishing.{IsStill, IsFreeSoFar, CanBeTaken}
use Rattle.run_core.specs.declared.answers.Attempt.{Attempt}
use Rattle.run_core.specs.declared.answers.Attempt.TheVariants as attempts
use Rattle.run_parts.specs.declared.answers.Thing.{Thing}
use Rattle.run_parts.specs.declared.answers.Thing.TheVariants as things

-- A LINE THAT CAN'T BE TAKEN
same_still : (old new : CoreValue) → new ≡ old → IsStill old new
same_still old new same = record { graph = ap (λ (c : CoreValue). c.graph) same; hosted = ap (λ (c : CoreValue). c.hosted) same; run = ap (λ (c : CoreValue). c.run) same; handles = ap (λ (c : CoreValue). c.handles) same }

stood : (old new : CoreValue) (i j : ℕ) → StandsBy old new i j → IsStill old new
stood old new i j stands = elim stands.either [
  | inl same ↦ same_still old new same
  | inr (h, at, is) ↦ record { graph = ap (λ (c : CoreValue). c.graph) is; hosted = ap (λ (c : CoreValue). c.hosted) is; run = ap (λ (c : CoreValue). c.run) is; handles = ap (λ (c : CoreValue). c.handles) is }
]

held_not_free : (g : GraphValue) (run : Run) (i : ℕ) (thing : Thing) → kept_cancels g run.stages i ≡ false → IsHeldBy g run i thing → IsFreeSoFar g run i → ⊥
held_not_free g run i thing runs held (inl cancelled) = true≢false (sym cancelled ∙ runs)
held_not_free g run i (things.Lock l) runs held (inr free) = true≢false (sym (free.0 l held.0 held.1.0 held.1.1) ∙ held.1.2)
held_not_free g run i (things.Column c) runs held (inr free) = held.1.is_out (free.1 c (map_contains (λ (a : Access). a.column) (accesses g i) c (got_contains (column_list g i) held.1.place c held.1.column)))

pub not_taken : (old new : CoreValue) (i : ℕ) (a : Attempt) → Attempts old new i a → ((w : WorkValue) → a ≢ attempts.Taken w) → IsStill old new × (CanBeTaken old.graph old.run i → ⊥)
not_taken old new i (attempts.Taken w) h none = absurd (none w refl)
not_taken old new i (attempts.Over s) h none = (same_still old new h.2, λ can. h.0 can.is_issued)
not_taken old new i attempts.Never h none = (same_still old new h.2, λ can. true≢false (sym h.1 ∙ can.comes))
not_taken old new i (attempts.NotYet j) h none = (stood old new i j h.3, λ can. true≢false (sym (can.sources j h.2.waits) ∙ h.2.left))
not_taken old new i (attempts.Busy thing) h none = (same_still old new h.3, λ can. held_not_free old.graph old.run i thing h.1 h.2 can.is_free)

-- WHICH CALLS MAY FAULT: those that have in a later core
pub tells_itself : (x : End) → Tells x (has_faulted x)
tells_itself Done = refl
tells_itself Faulted = refl
tells_itself Cancelled = tt
tells_itself Waiting = tt

tells_kept : (hosted : Bool) (x y : End) → hosted ≡ true → (x ≡ Waiting) ⊎ (x ≡ y) → Tells x (hosted && has_faulted y)
tells_kept true x y h (inl waits) = subst (λ z. Tells z (has_faulted y)) (sym waits) tt
tells_kept true x y h (inr same) = subst (λ z. Tells z (has_faulted y)) (sym same) (tells_itself y)
tells_kept false x y h same = absurd (true≢false (sym h))

-- no line that has ended in the first core has ended otherwise in the other
abbrev pub IsBefore : CoreValue → CoreValue → Type 0
IsBefore c d = (k : ℕ) → (end_so_far (stage_at c.run.stages k) ≡ Waiting) ⊎ (end_so_far (stage_at c.run.stages k) ≡ end_so_far (stage_at d.run.stages k))

pub before_itself : (c : CoreValue) → IsBefore c c
before_itself c k = inr refl

pub may_before : (c d : CoreValue) → c.hosted ≡ true → d.hosted ≡ true → IsBefore c d → MayFault c (kept_faults d)
may_before c d hosted later before = record {
  none = λ e. absurd (true≢false (sym hosted ∙ e));
  told = λ i h l. tells_kept d.hosted (end_so_far (stage_at c.run.stages i)) (end_so_far (stage_at d.run.stages i)) later (before i);
}

-- A LINE THAT IS ISSUED
unissued_is : (s : LineStage) → stage_issued s ≡ false → s ≡ Unissued
unissued_is Unissued h = refl
unissued_is Issued h = absurd (true≢false h)
unissued_is Out h = absurd (true≢false h)
unissued_is (Ending x) h = absurd (true≢false h)
unissued_is (Ended x) h = absurd (true≢false h)

false_unless : (b : Bool) → (b ≡ true → ⊥) → b ≡ false
false_unless true n = absurd (n refl)
false_unless false n = refl

pub next_unissued : (c : CoreValue) → IsCore c → stage_at c.run.stages (length c.handles) ≡ Unissued
next_unissued c core = unissued_is (stage_at c.run.stages (length c.handles)) (false_unless (issued c.run.stages (length c.handles)) (λ h. (let b : length c.handles < length c.handles = (core.events.each_issued (length c.handles)).0 h in omega (arith, b))))

-- A LINE THAT IS TAKEN AND PUT BACK
pub record GoesOut (old mid : CoreValue) (i : ℕ) : Type 0 where
  pub graph : mid.graph ≡ old.graph
  pub hosted : mid.hosted ≡ old.hosted
  pub stages : mid.run.stages ≡ slice_set old.run.stages i Out
  pub clock : mid.run.clock ≡ old.run.clock
  pub handles : mid.handles ≡ old.handles

pub goes_out : (old mid : CoreValue) (w : WorkValue) → Takes old mid w → GoesOut old mid w.line
goes_out old mid w takes = elim (cases_Bool (kept_cancels old.graph old.run.stages w.line)) [
  | inl cancelled ↦ by_run (claim old.run w.line) old.lendings (takes.claimed cancelled) refl refl
  | inr runs ↦ (let t = takes.taken runs in by_run (take_sharing old.graph old.run w.line) t.2 t.4 refl refl)
]
  where
    by_run : (run : Run) (lendings : List (Option Lending)) → mid ≡ with_lendings (with_run old run) lendings → run.stages ≡ slice_set old.run.stages w.line Out → run.clock ≡ old.run.clock → GoesOut old mid w.line
    by_run run lendings is shape timed = record {
      graph = ap (λ (c : CoreValue). c.graph) is;
      hosted = ap (λ (c : CoreValue). c.hosted) is;
      stages = ap (λ (c : CoreValue). c.run.stages) is ∙ shape;
      clock = ap (λ (c : CoreValue). c.run.clock) is ∙ timed;
      handles = ap (λ (c : CoreValue). c.handles) is;
    }

-- the stages after line i was taken from the first core and put back so
pub record GoesBack (old mid new : CoreValue) (i : ℕ) (x : End) : Type 0 where
  pub graph : new.graph ≡ old.graph
  pub hosted : new.hosted ≡ old.hosted
  pub clock : new.run.clock ≡ old.run.clock + 1
  pub handles : new.handles ≡ old.handles
  pub was_issued : stage_at old.run.stages i ≡ Issued
  pub was_out : stage_at mid.run.stages i ≡ Out
  pub here : stage_at new.run.stages i ≡ Ended x
  pub there : (k : ℕ) → k ≢ i → stage_at new.run.stages k ≡ stage_at old.run.stages k
  pub between : (k : ℕ) → k ≢ i → stage_at mid.run.stages k ≡ stage_at old.run.stages k

issued_below : (stages : List LineStage) (i : ℕ) → stage_at stages i ≡ Issued → i < length stages
issued_below stages i is = stage_there stages i (ap stage_issued is)

pub goes_back : (old mid new : CoreValue) (w : WorkValue) (f : FinishedValue) → Takes old mid w → f.line ≡ w.line → new ≡ with_end mid f → GoesBack old mid new w.line f.ends
goes_back old mid new w f takes same put = record {
  graph = ap (λ (c : CoreValue). c.graph) put ∙ gone.graph;
  hosted = ap (λ (c : CoreValue). c.hosted) put ∙ gone.hosted;
  clock = ap (λ (c : CoreValue). c.run.clock) put ∙ ap (λ n. n + 1) gone.clock;
  handles = ap (λ (c : CoreValue). c.handles) put ∙ gone.handles;
  was_issued = takes.due.is_issued;
  was_out = ap (λ ss. stage_at ss w.line) gone.stages ∙ get_or-set_same old.run.stages w.line Out Unissued near;
  here = ap (λ ss. stage_at ss w.line) stages ∙ get_or-set_same old.run.stages w.line (Ended f.ends) Unissued near;
  there = λ k ne. ap (λ ss. stage_at ss k) stages ∙ get_or-set_other old.run.stages w.line k (Ended f.ends) Unissued ne;
  between = λ k ne. ap (λ ss. stage_at ss k) gone.stages ∙ get_or-set_other old.run.stages w.line k Out Unissued ne;
}
  where
    gone : GoesOut old mid w.line
    gone = goes_out old mid w takes

    near : w.line < length old.run.stages
    near = issued_below old.run.stages w.line takes.due.is_issued

    stages : new.run.stages ≡ slice_set old.run.stages w.line (Ended f.ends)
    stages =
        ap (λ (c : CoreValue). c.run.stages) put ∙ (set-set mid.run.stages f.line (Ending f.ends) (Ended f.ends)
        ∙ (ap (λ k. slice_set mid.run.stages k (Ended f.ends)) same ∙ (ap (λ ss. slice_set ss w.line (Ended f.ends)) gone.stages ∙ set-set old.run.stages w.line Out (Ended f.ends))))

-- whether the line was cancelled, by what is kept of its sources and by its work
pub record CancelledAlike (old : CoreValue) (w : WorkValue) (x : End) : Type 0 where
  pub kept : (kept_cancels old.graph old.run.stages w.line ≡ true) ↔ (x ≡ Cancelled)
  pub work : (w.is_cancelled ≡ true) ↔ (x ≡ Cancelled)

pub cancelled_alike : CancelledByKeptEnds → (old mid new : CoreValue) (w : WorkValue) (x : End) → IsCore old → IsCore new → old.hosted ≡ true → mid.hosted ≡ true → new.hosted ≡ true → mid.graph ≡ old.graph → w.line < length old.graph.lines →
    Takes old mid w → GoesBack old mid new w.line x → CancelledAlike old w x
cancelled_alike law old mid new w x core after hosted middle later graph near takes back = record {
  kept = (λ e. sym ends ∙ by_kept.0 e, λ e. by_kept.1 (ends ∙ e));
  work = (λ e. sym ends_mid ∙ by_work.0 e, λ e. by_work.1 (ends_mid ∙ e));
}
  where
    faults : ℕ → Bool
    faults = kept_faults new

    from_old : IsBefore old new
    from_old k = elim (cases_eq k w.line) [
      | inl here ↦ inl (ap (λ j. end_so_far (stage_at old.run.stages j)) here ∙ ap end_so_far back.was_issued)
      | inr other ↦ inr (ap end_so_far (sym (back.there k other)))
    ]

    from_mid : IsBefore mid new
    from_mid k = elim (cases_eq k w.line) [
      | inl here ↦ inl (ap (λ j. end_so_far (stage_at mid.run.stages j)) here ∙ ap end_so_far back.was_out)
      | inr other ↦ inr (ap end_so_far (back.between k other ∙ sym (back.there k other)))
    ]

    ends_new : end_with (effect_by faults new.graph) zero_cells new.graph w.line ≡ x
    ends_new = (after.whichever faults (may_before new new later later (before_itself new))).0.on_lines.ends w.line x (ap kept_end back.here)

    ends : end_with (effect_by faults old.graph) zero_cells old.graph w.line ≡ x
    ends = subst (λ h. end_with (effect_by faults h) zero_cells h w.line ≡ x) back.graph ends_new

    ends_mid : end_with (effect_by faults mid.graph) zero_cells mid.graph w.line ≡ x
    ends_mid = subst (λ h. end_with (effect_by faults h) zero_cells h w.line ≡ x) (sym graph) ends

    by_kept : (kept_cancels old.graph old.run.stages w.line ≡ true) ↔ (end_with (effect_by faults old.graph) zero_cells old.graph w.line ≡ Cancelled)
    by_kept = law (effect_by faults old.graph) old.graph old.run w.line (core.whichever faults (may_before old new hosted later from_old)).0 near takes.due.comes (λ e c to. takes.due.sources e.from (e, c, refl, to))

    by_work : (w.is_cancelled ≡ true) ↔ (end_with (effect_by faults mid.graph) zero_cells mid.graph w.line ≡ Cancelled)
    by_work = (takes.work faults (may_before mid new middle later from_mid)).cancelled
