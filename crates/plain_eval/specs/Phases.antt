-- How the values of phases come about, arrival by arrival.
use Rattle.std.specs.Prelude.{ℕ, List, take, filter_map, Option, Some, None, option_map, slice_index_or, slice_set, slice_get}
use Rattle.graph_terms.specs.declared.decl.BarrierInfo.{BarrierInfo}
use Rattle.graph_terms.specs.declared.outcome.End.{End}
use Rattle.graph_terms.specs.declared.outcome.End.TheVariants.{Done}
use Rattle.graph_terms.specs.declared.verb.Line.{Line}
use Rattle.graph_terms.specs.declared.verb.Verb.{Verb}
use Rattle.graph_terms.specs.declared.verb.Verb.TheVariants.{Phase, Arrive}
use Rattle.graph_terms.specs.Graph.{GraphValue, barriers, verb_at}
use Rattle.graph_meaning.specs.Evaluation.{eval_end, combined, arrival_value, reduced_with}
use Rattle.plain_eval.specs.declared.phases.Reduction.{Reduction}

-- the barrier of a phase that is done
abbrev pub done_barrier_by : GraphValue → End → Option Verb → Option BarrierInfo
done_barrier_by g Done (Some (Phase b)) = slice_get (barriers g) b
done_barrier_by g _ _ = None

abbrev pub done_barrier : GraphValue → ℕ → Option BarrierInfo
done_barrier g p = done_barrier_by g (eval_end g p) (verb_at g p)

-- the reduction of a phase that is done, before any arrival
abbrev pub first_reduction : GraphValue → ℕ → Option Reduction
first_reduction g p = option_map (λ x. record { op = x.op; total = x.first }) (done_barrier g p)

-- the reduction after the arrivals among the first k lines
abbrev pub reduction_after : GraphValue → ℕ → ℕ → Option Reduction
reduction_after g k p = option_map (λ x. record { op = x.op; total = reduced_with x.op x.first (filter_map (λ (l : Line). arrival_value p l.verb) (take k g.lines)) }) (done_barrier g p)

-- one more arrival
abbrev pub with_arrival : Verb → List (Option Reduction) → List (Option Reduction)
with_arrival (Arrive q value weight) rs = slice_set rs q (option_map (λ r. record { op = r.op; total = combined r.op r.total value }) (slice_index_or rs q None))
with_arrival _ rs = rs
