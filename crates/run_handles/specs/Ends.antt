-- How lines ended where a host may have said of calls that they faulted, and what a run gives by that.
use Rattle.std.specs.Prelude.{◌≡◌, ◌≢◌, ℕ, ◌⊎◌, Bool, true, false, List, IsTrue, slice_index_or}
use Rattle.graph_terms.specs.declared.outcome.End.{End}
use Rattle.graph_terms.specs.declared.outcome.End.TheVariants.{Faulted, Waiting}
use Rattle.graph_terms.specs.declared.outcome.Outcome.{Outcome}
use Rattle.graph_terms.specs.Graph.{GraphValue, is_call, line_passes}
use Rattle.graph_meaning.specs.Effect.{zero_cells}
use Rattle.graph_meaning.specs.Evaluation.{outcome_with, order_with}
use Rattle.graph_meaning.specs.Path.{Reached}
use Rattle.run_report.specs.Report.{report}
use Rattle.run_state.specs.Run.{end_so_far, ended, stage_at}
use Rattle.run_state.specs.Verdicts.{effect_by}
use Rattle.run_core.specs.Core.{CoreValue, Tells}

-- the line is a call
abbrev pub IsCall : GraphValue → ℕ → Type 0
IsCall g i = IsTrue (line_passes is_call g i)

-- how a line ended, in what a run gave and in a run so far
abbrev pub end_of : Outcome → ℕ → End
end_of o i = slice_index_or o.ends i Waiting

abbrev pub end_in : CoreValue → ℕ → End
end_in c i = end_so_far (stage_at c.run.stages i)

-- where lines ended so these may be the calls that faulted: each that ended tells it
abbrev pub AgreesWith : GraphValue → (ℕ → End) → (ℕ → Bool) → Type 0
AgreesWith g ends faults = (i : ℕ) → IsCall g i → Tells (ends i) (faults i)

-- no call faulted
abbrev pub NoneFaulted : GraphValue → (ℕ → End) → Type 0
NoneFaulted g ends = (i : ℕ) → IsCall g i → ends i ≢ Faulted

-- it is what the evaluation gives in which those calls fault that did
abbrev pub IsEvaluated : GraphValue → Outcome → Type 0
IsEvaluated g o = (faults : ℕ → Bool) → AgreesWith g (end_of o) faults → o ≡ outcome_with (effect_by faults g) zero_cells g o.trace

-- the report of the evaluation in which these calls fault
abbrev pub report_with : (ℕ → Bool) → GraphValue → List ℕ
report_with faults g = report g (outcome_with (effect_by faults g) zero_cells g (order_with (effect_by faults g) zero_cells g))

-- a call is left of which a body would be run: it has not ended, and no line that never comes reaches it
abbrev pub LeavesCall : CoreValue → Type 0
LeavesCall c = (i : ℕ) × IsCall c.graph i × (ended c.run.stages i ≡ false) × (Reached c.graph i → ⊥)

abbrev pub LeavesNoCall : CoreValue → Type 0
LeavesNoCall c = (i : ℕ) → IsCall c.graph i → (ended c.run.stages i ≡ true) ⊎ Reached c.graph i
