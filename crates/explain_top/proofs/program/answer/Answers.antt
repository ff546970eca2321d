use Rattle.explain_top.proofs.Endings.{answered_with}
use Rattle.explain_top.proofs.program.answer.Goals as goal

pub returns-in-Ok-clause-answered : goal.returns-in-Ok-clause-answered
returns-in-Ok-clause-answered g c =
    answered_with c.args.ends c.args.all c.args.bytes.now c.in-Ok.answer.verdict c.in-Ok.answer.text c.bytes.result.now _ _ c.put_text.result c.status_of.result c.in-Ok.ensures c.bytes.ensures c.status_of.ensures c.put_text.ensures
