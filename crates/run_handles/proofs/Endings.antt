-- What a run gives that is brought to its end: each call ends as it has, and the rest is evaluated with these faults.
use Rattle.std.proofs.Common.{◌≡◌, ◌<◌, ℕ, ◌&&◌, Bool, true, inl, inr, length, refl, sym, ◌∙◌, ap, subst, arith}
use Rattle.std.specs.Prelude.{◌⊎◌, Some}
use Rattle.std.proofs.lemmas.Bool.{true≢false, false≢true}
use Rattle.std.proofs.lemmas.List.FromFn.{get_or-map-range_with_len, length-map-range_with_len}
use Rattle.graph_terms.specs.declared.outcome.End.{End}
use Rattle.graph_terms.specs.declared.outcome.End.TheVariants.{Done, Faulted, Cancelled, Waiting}
use Rattle.graph_terms.specs.declared.outcome.Outcome.{Outcome}
use Rattle.graph_terms.specs.Graph.{GraphValue, columns, is_call}
use Rattle.graph_terms.proofs.Public.{passes_below}
use Rattle.graph_meaning.specs.Effect.{zero_cells}
use Rattle.graph_meaning.specs.Evaluation.{answer_of, cells_with, column_of, end_with, evaluation_with, outcome_with, phase_value_with}
use Rattle.graph_meaning.specs.Laws.{WaitsWhereReachedWith}
use Rattle.graph_meaning.specs.Path.{Reached}
use Rattle.run_report.specs.Report.{FitsGraph}
use Rattle.run_state.specs.Run.{LineStage, Unissued, Issued, Out, Ending, Ended, end_so_far, ended, kept_end, stage_at, stage_ended}
use Rattle.run_state.specs.Verdicts.{effect_by}
use Rattle.run_core.specs.Core.{CoreValue, IsCore, MayFault, Tells, has_faulted, kept_faults}
use Rattle.run_core.specs.Finishing.{GoesOn}
use Rattle.run_handles.specs.Ends.{AgreesWith, IsCall, IsEvaluated, LeavesNoCall, end_in, end_of}

-- WHICH CALLS MAY FAULT: those that did
tells_itself : (x : End) → Tells x (has_faulted x)
tells_itself Done = refl
tells_itself Faulted = refl
tells_itself Cancelled = tt
tells_itself Waiting = tt

kept_may : (c : CoreValue) → MayFault c (kept_faults c)
kept_may c = record {
  none = λ unhosted i. ap (λ (h : Bool). h && has_faulted (end_in c i)) unhosted;
  told = λ i hosted call. subst (λ (h : Bool). Tells (end_in c i) (h && has_faulted (end_in c i))) (sym hosted) (tells_itself (end_in c i));
}

-- WHAT WAS EVALUATED fits its graph
pub evaluated_fits : (g : GraphValue) (o : Outcome) → IsEvaluated g o → FitsGraph g o
evaluated_fits g o is =
    let faults : ℕ → Bool = λ i. has_faulted (end_of o i) in
    let does = effect_by faults g in
    subst (FitsGraph g) (sym (is faults (λ i call. tells_itself (end_of o i)))) (record {
      ends = length-map-range_with_len (end_with does zero_cells g) 0 (length g.lines);
      answers = length-map-range_with_len (λ i. answer_of (end_with does zero_cells g i)) 0 (length g.lines);
      phases = length-map-range_with_len (phase_value_with does zero_cells g) 0 (length g.lines);
      columns = length-map-range_with_len (column_of g (cells_with zero_cells (evaluation_with does zero_cells g))) 0 (length (columns g));
    })

-- HOW A LINE HAS ENDED SO FAR: as it ends in the evaluation, or not at all
so_far : (s : LineStage) (e : End) → ((x : End) → kept_end s ≡ Some x → e ≡ x) → (end_so_far s ≡ Waiting) ⊎ (end_so_far s ≡ e)
so_far Unissued e is = inl refl
so_far Issued e is = inl refl
so_far Out e is = inl refl
so_far (Ending x) e is = inr (sym (is x refl))
so_far (Ended x) e is = inr (sym (is x refl))

ended_so : (s : LineStage) → stage_ended s ≡ true → s ≡ Ended (end_so_far s)
ended_so Unissued h = absurd (false≢true h)
ended_so Issued h = absurd (false≢true h)
ended_so Out h = absurd (false≢true h)
ended_so (Ending x) h = absurd (false≢true h)
ended_so (Ended x) h = refl

-- the end of a line in the evaluation with the faults that a core keeps
abbrev kept_end_of : CoreValue → ℕ → End
kept_end_of c i = end_with (effect_by (kept_faults c) c.graph) zero_cells c.graph i

core_so_far : (c : CoreValue) → IsCore c → (i : ℕ) → (end_in c i ≡ Waiting) ⊎ (end_in c i ≡ kept_end_of c i)
core_so_far c core i = so_far (stage_at c.run.stages i) (kept_end_of c i) (core.sound.on_lines.ends i)

reached_waits : WaitsWhereReachedWith → (c : CoreValue) → IsCore c → (i : ℕ) → i < length c.graph.lines → Reached c.graph i → kept_end_of c i ≡ Waiting
reached_waits law c core i below reached = (law (effect_by (kept_faults c) c.graph) zero_cells c.graph i core.sound.graph core.sound.accepted.acyclic below).1 reached

reached_so_far : WaitsWhereReachedWith → (c : CoreValue) → IsCore c → (i : ℕ) → i < length c.graph.lines → Reached c.graph i → end_in c i ≡ Waiting
reached_so_far law c core i below reached = elim (core_so_far c core i) [
  | inl waits ↦ waits
  | inr is ↦ is ∙ reached_waits law c core i below reached
]

-- WHAT A CORE GIVES that was gone on with until nothing moved, from one in which no call was left
module _ (law : WaitsWhereReachedWith) (c d : CoreValue) (core : IsCore c) (last : IsCore d) (on : GoesOn c d) (hosted : c.hosted ≡ true) (o : Outcome)
    (gives : (faults : ℕ → Bool) → MayFault d faults → o ≡ outcome_with (effect_by faults d.graph) zero_cells d.graph o.trace) where
  call_there : (i : ℕ) → IsCall c.graph i → IsCall d.graph i
  call_there i call = subst (λ (g : GraphValue). IsCall g i) (sym on.graph) call

  given_end : (i : ℕ) → IsCall d.graph i → end_of o i ≡ kept_end_of d i
  given_end i call = ap (λ (x : Outcome). end_of x i) (gives (kept_faults d) (kept_may d))
      ∙ get_or-map-range_with_len (λ k. kept_end_of d k) 0 (length d.graph.lines) i i Waiting (passes_below is_call d.graph i call) (omega arith)

  call_ends : (i : ℕ) → IsCall c.graph i → (ended c.run.stages i ≡ true) ⊎ Reached c.graph i → end_of o i ≡ end_in c i
  call_ends i call (inl is) = given_end i (call_there i call) ∙ last.sound.on_lines.ends i (end_in c i) (ap kept_end (on.stays.ends i (end_in c i) (ended_so (stage_at c.run.stages i) is)))
  call_ends i call (inr reached) =
      let there = call_there i call in
      given_end i there ∙ (reached_waits law d last i (passes_below is_call d.graph i there) (subst (λ (g : GraphValue). Reached g i) (sym on.graph) reached)
      ∙ sym (reached_so_far law c core i (passes_below is_call c.graph i call) reached))

  pub calls_end : LeavesNoCall c → (i : ℕ) → IsCall c.graph i → end_of o i ≡ end_in c i
  calls_end none i call = call_ends i call (none i call)

  told_by : (faults : ℕ → Bool) → AgreesWith d.graph (end_of o) faults → (i : ℕ) → IsCall d.graph i → Tells (end_in d i) (faults i)
  told_by faults agrees i call = elim (core_so_far d last i) [
    | inl waits ↦ subst (λ (x : End). Tells x (faults i)) (sym waits) tt
    | inr is ↦ subst (λ (x : End). Tells x (faults i)) (given_end i call ∙ sym is) (agrees i call)
  ]

  may_by : (faults : ℕ → Bool) → AgreesWith d.graph (end_of o) faults → MayFault d faults
  may_by faults agrees = record {
    none = λ unhosted i. absurd (true≢false (sym hosted ∙ (sym on.hosted ∙ unhosted)));
    told = λ i is call. told_by faults agrees i call;
  }

  pub evaluated : IsEvaluated c.graph o
  evaluated = subst (λ (g : GraphValue). IsEvaluated g o) on.graph (λ faults agrees. gives faults (may_by faults agrees))
