use Rattle.explain_top.proofs.Telling.{as_answer}
use Rattle.explain_top.proofs.answer.explain_in.Goals as goal

pub returns : goal.returns
returns c =
    as_answer c.as_told.result c.args.ends c.args.all c.args.bytes.now c.in_ok-whole.whole c.most_bytes.result c.most_bytes.ensures.number c.in_ok-whole.ensures c.as_told.ensures.verdict c.as_told.ensures.text c.as_told.ensures.few c.as_told.ensures.plain
