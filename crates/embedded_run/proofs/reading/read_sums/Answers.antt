use Rattle.std.proofs.Common.{arith}
use Rattle.std.proofs.lemmas.Result.{err_from_is_err_and}
use Rattle.embedded_run.specs.SumGraph.{sum_graph}
use Rattle.embedded_run.proofs.Failures.{ran_or_memory}
use Rattle.embedded_run.proofs.SumAccepted.{sum_accepted}
use Rattle.embedded_run.proofs.SumNeed.{sum_need}
use Rattle.embedded_run.proofs.reading.read_sums.Goals as goal

pub returns-in_err-outcome-clause-refused : goal.returns-in_err-outcome-clause-refused
returns-in_err-outcome-clause-refused t c =
    let p = err_from_is_err_and c.from_residual-in_err-outcome.result c.from_residual-in_err-outcome.ensures.1 in
    rw (p.1, p.2) (ran_or_memory _ sum_graph 16 _ c.in_err-outcome.ensures.refused c.in_ok-graph.ensures.graph sum_accepted (λ n is. omega (arith, sum_need n is)))
