use Rattle.graph_answers.proofs.Timelines.{answer_in_pieces}
use Rattle.graph_answers.proofs.planning.plan_cut.Goals as goal

pub returns-clause-done : goal.returns-clause-done
returns-clause-done g c = answer_in_pieces c.args.checked.now.graph c.checked_pieces-in_pieces.result.graph c.args.cut.pieces.unions.items c.args.cut.pieces.pieces.items c.args.processors _ _ c.plan_columns.result
    c.requires.pieces c.checked_pieces-in_pieces.ensures.graph c.plan_columns.ensures.done
