use Rattle.explain_top.proofs.MissingFacts.{end_settled}
use Rattle.explain_top.proofs.missing.is_end_settled.Goals as goal

pub returns-in-Some : goal.returns-in-Some
returns-in-Some c above = end_settled c.args.graph.now c.args.lines.now c.args.ended c.in-Some.line c.is_above_last.result c.in-Some.is c.is_above_last.ensures above
