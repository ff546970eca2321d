use Rattle.std.proofs.Common.{◌≡◌, subst}
use Rattle.std.specs.Prelude.{IfOk}
use Rattle.std.proofs.lemmas.Result.{IfOk-weaker}
use Rattle.graph_meaning.specs.Evaluation.{outcome, order}
use Rattle.graph_terms.specs.Fits.{IsGraph}
use Rattle.graph_terms.specs.declared.outcome.End.TheVariants.{Cancelled, Waiting}
use Rattle.plain_eval.proofs.OrderFacts.{trace_of_lines}
use Rattle.plain_eval.proofs.PhaseFacts.{end_given}
use Rattle.plain_eval.proofs.evaluation.eval.Goals as goal

pub returns-clause-outcome : goal.returns-clause-outcome
returns-clause-outcome c = subst (λ g. IfOk c.outcome_of.result (λ o. o ≡ outcome g (order g))) c.graph-graph.ensures.graph c.outcome_of.ensures

pub returns-clause-waiting : goal.returns-clause-waiting
returns-clause-waiting c =
    let fits = subst IsGraph c.graph-graph.ensures.graph c.lines.ensures.is_graph in
    IfOk-weaker c.outcome_of.result _ _ (λ o h i b. end_given c.args.checked.now.graph o i Waiting _ h b (c.waits_where_reached.ensures c.args.checked.now.graph i fits c.graph-graph.ensures.accepted.acyclic b))
    (subst (λ g. IfOk c.outcome_of.result (λ o. o ≡ outcome g (order g))) c.graph-graph.ensures.graph c.outcome_of.ensures)

pub returns-clause-cancelled : goal.returns-clause-cancelled
returns-clause-cancelled c =
    IfOk-weaker c.outcome_of.result _ _ (λ o h i b. end_given c.args.checked.now.graph o i Cancelled _ h b (c.cancelled_where_unbroken.ensures c.args.checked.now.graph i))
    (subst (λ g. IfOk c.outcome_of.result (λ o. o ≡ outcome g (order g))) c.graph-graph.ensures.graph c.outcome_of.ensures)

pub returns-clause-lines : goal.returns-clause-lines
returns-clause-lines c =
    IfOk-weaker c.outcome_of.result _ _ (λ o h. trace_of_lines c.args.checked.now.graph o h)
    (subst (λ g. IfOk c.outcome_of.result (λ o. o ≡ outcome g (order g))) c.graph-graph.ensures.graph c.outcome_of.ensures)
