use Rattle.graph_comments.proofs.Passing.{passed_first, one_line}
use Rattle.graph_comments.proofs.bare.first_comment.Goals as goal

pub comment_behind-requires : goal.comment_behind-requires
comment_behind-requires c = passed_first c.args.bytes.now c.in-Some.field-0-0.now c.in-Some.behind.now c.in-Some.ensures

pub returns-in-None : goal.returns-in-None
returns-in-None c = one_line c.args.bytes.now c.in-None.ensures
