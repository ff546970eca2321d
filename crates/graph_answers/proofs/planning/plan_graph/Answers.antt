use Rattle.graph_answers.proofs.Timelines.{answer_asked}
use Rattle.graph_answers.proofs.planning.plan_graph.Goals as goal

pub returns-then-request-clause-done : goal.returns-then-request-clause-done
returns-then-request-clause-done g c = answer_asked c.args.request.now c.args.checked.now.graph _ c.max-processors.result _ _ c.plan_pieces.result c.if-request.true c.max-processors.ensures c.plan_pieces.ensures.done

pub returns-else-request-clause-done : goal.returns-else-request-clause-done
returns-else-request-clause-done g c = answer_asked c.args.request.now c.args.checked.now.graph _ c.max-processors.result _ _ c.plan_lines.result c.if-request.false c.max-processors.ensures c.plan_lines.ensures.done
