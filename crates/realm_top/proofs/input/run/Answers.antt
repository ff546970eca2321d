use Rattle.std.proofs.Common.{inr, refl}
use Rattle.graph_answers.specs.Answer.{run_text}
use Rattle.program_io.proofs.Public.{written_then_flushed, stopped_is_broken}
use Rattle.realm_top.proofs.MadeRequests.{wrote_run, stopped_run}
use Rattle.realm_top.proofs.input.run.Goals as goal

pub returns-in-Ok-put_run-clause-done : goal.returns-in-Ok-put_run-clause-done
returns-in-Ok-put_run-clause-done g c =
    let request = c.args.request.now in
    let trace = c.in-Ok.outcome.trace in
    inr (trace, c.in-Ok.ensures.lawful, written_then_flushed _ _ _ _ c.flush.result (run_text request.action request.trace c.args.checked.now.graph trace) (wrote_run _ _ request.action request.trace c.graph.result.now c.args.checked.now.graph trace c.graph.ensures.graph c.in-Ok-put_run.ensures) c.flush.ensures)

pub returns-clause-done : goal.returns-clause-done
returns-clause-done g c =
    let request = c.args.request.now in
    let trace = c.in-Ok.outcome.trace in
    inr (trace, c.in-Ok.ensures.lawful, inr (refl, stopped_is_broken _ _ (run_text request.action request.trace c.args.checked.now.graph trace) (stopped_run _ _ request.action request.trace c.graph.result.now c.args.checked.now.graph trace c.graph.ensures.graph c.in-Err.ensures)))
