use Rattle.std.proofs.Common.{inr, ap}
use Rattle.graph_terms.specs.declared.outcome.Outcome.{Outcome}
use Rattle.graph_meaning.specs.Evaluation.{order}
use Rattle.graph_answers.specs.Answer.{evaluation_text}
use Rattle.program_io.proofs.Public.{written_then_flushed}
use Rattle.graph_answers.proofs.Delivering.{wrote_of}
use Rattle.graph_answers.proofs.evaluating.evaluate.Goals as goal

pub returns-in-Ok-put_outcome-clause-done : goal.returns-in-Ok-put_outcome-clause-done
returns-in-Ok-put_outcome-clause-done g c =
    let graph = c.args.checked.now.graph in
    inr (written_then_flushed _ _ _ _ c.flush.result (evaluation_text c.args.trace graph)
    (wrote_of _ _ c.args.trace c.graph.result.now graph c.in-Ok.outcome.trace (order graph) c.graph.ensures.graph (ap (λ (o : Outcome). o.trace) c.in-Ok.ensures.outcome) c.in-Ok-put_outcome.ensures) c.flush.ensures)
