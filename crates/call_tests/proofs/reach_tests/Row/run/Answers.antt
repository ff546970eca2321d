use Rattle.std.proofs.Common.{◌≡◌, length, map, ap, sym, subst}
use Rattle.basics.specs.Lists.{numbers_below}
use Rattle.graph_terms.specs.Graph.{GraphValue}
use Rattle.graph_meaning.specs.Evaluation.{eval_end}
use Rattle.call_tests.proofs.reach_tests.Row.run.Goals as goal

pub cancelled_lines-requires : goal.cancelled_lines-requires
cancelled_lines-requires c =
    subst (λ (g : GraphValue). c.in_ok-outcome.outcome.ends ≡ map (eval_end g) (numbers_below (length g.lines))) (sym c.graph.ensures.graph)
    (ap (λ o. o.ends) c.in_ok-outcome.ensures.outcome)
