-- What the report of a run is: that of the evaluation in which those calls fault that did, and of the evaluation where none did.
use Rattle.std.proofs.Common.{◌≡◌, ℕ, Bool, false, refl, ap}
use Rattle.std.specs.Prelude.{◌≢◌}
use Rattle.graph_terms.specs.declared.outcome.End.{End}
use Rattle.graph_terms.specs.declared.outcome.End.TheVariants.{Done, Faulted, Cancelled, Waiting}
use Rattle.graph_terms.specs.declared.outcome.Outcome.{Outcome}
use Rattle.graph_terms.specs.Graph.{GraphValue}
use Rattle.run_report.specs.Report.{report}
use Rattle.run_core.specs.Core.{Tells}
use Rattle.run_handles.specs.Ends.{AgreesWith, IsEvaluated, NoneFaulted, end_of, report_with}

tells_none : (x : End) → x ≢ Faulted → Tells x false
tells_none Done unlike = refl
tells_none Faulted unlike = absurd (unlike refl)
tells_none Cancelled unlike = tt
tells_none Waiting unlike = tt

pub none_agrees : (g : GraphValue) (ends : ℕ → End) → NoneFaulted g ends → AgreesWith g ends (λ i. false)
none_agrees g ends none = λ i call. tells_none (ends i) (none i call)

pub evaluated_report : (g : GraphValue) (o : Outcome) (faults : ℕ → Bool) → IsEvaluated g o → AgreesWith g (end_of o) faults → report g o ≡ report_with faults g
evaluated_report g o faults is agrees = ap (report g) (is faults agrees)
