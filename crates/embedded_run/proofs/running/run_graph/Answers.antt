use Rattle.std.proofs.Common.{sym, subst}
use Rattle.embedded_run.specs.Failures.{IsRunFailure}
use Rattle.embedded_run.proofs.Failures.{refusal_fails}
use Rattle.embedded_run.proofs.running.run_graph.Goals as goal

pub returns-in-Err-clause-refused : goal.returns-in-Err-clause-refused
returns-in-Err-clause-refused t c =
    subst (IsRunFailure c.args.graph 16) (sym c.failure_of.ensures) (refusal_fails c.args.graph 16 c.in-Err.unfit.why c.in-Err.ensures.refused c.in-Err.ensures.complete)
