-- The outcome of an evaluation fits its graph.
use Rattle.std.proofs.Common.{◌≡◌, ℕ, List, length, sym, ◌∙◌, ap, subst}
use Rattle.std.proofs.lemmas.List.FromFn.{length-map-range_with_len}
use Rattle.graph_terms.specs.Graph.{GraphValue, columns}
use Rattle.graph_terms.specs.declared.outcome.Outcome.{Outcome}
use Rattle.graph_meaning.specs.Evaluation.{eval_end, answer_of, phase_value, column_of, cells_of, evaluation, outcome}
use Rattle.run_report.specs.Report.{FitsGraph, report, evaluation_report}

pub outcome_fits : (g : GraphValue) (o : Outcome) (trace : List ℕ) → o ≡ outcome g trace → FitsGraph g o
outcome_fits g o trace e = subst (FitsGraph g) (sym e) (record {
  ends = length-map-range_with_len (eval_end g) 0 (length g.lines);
  answers = length-map-range_with_len (λ i. answer_of (eval_end g i)) 0 (length g.lines);
  phases = length-map-range_with_len (phase_value g) 0 (length g.lines);
  columns = length-map-range_with_len (column_of g (cells_of (evaluation g))) 0 (length (columns g));
})

-- the report that was written is the evaluation's
pub report_is : (g : GraphValue) (o : Outcome) (trace : List ℕ) → o ≡ outcome g trace → report g o ≡ evaluation_report g
report_is g o trace e = ap (report g) e

-- an outcome with its own trace
pub own_trace : (g : GraphValue) (o : Outcome) (trace : List ℕ) → o ≡ outcome g trace → o ≡ outcome g o.trace
own_trace g o trace e = e ∙ ap (outcome g) (sym (ap (λ (x : Outcome). x.trace) e))
