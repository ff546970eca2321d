use Rattle.graph_comments.proofs.Newlines.{none_there, first_there}
use Rattle.graph_comments.proofs.lines.first_line.Goals as goal

pub returns-in-Some : goal.returns-in-Some
returns-in-Some c = first_there c.args.bytes.now c.in-Some.end c.in-Some.ensures.0 c.in-Some.ensures.1

pub returns-in-None : goal.returns-in-None
returns-in-None c = none_there c.args.bytes.now c.in-None.ensures
