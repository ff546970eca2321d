use Rattle.std.proofs.Common.{subst}
use Rattle.piece_graphs.specs.Uncut.{IsUncut}
use Rattle.graph_answers.proofs.Timelines.{answer_whole}
use Rattle.graph_answers.proofs.planning.plan_pieces.Goals as goal

pub returns-in-None-clause-done : goal.returns-in-None-clause-done
returns-in-None-clause-done g c = answer_whole c.args.checked.now.graph c.args.processors _ _ c.plan_columns.result (subst IsUncut c.graph.ensures.graph (c.in-Ok.ensures.none c.in-None.is)) c.plan_columns.ensures.done
