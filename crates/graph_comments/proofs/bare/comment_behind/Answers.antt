use Rattle.std.proofs.Common.{sym}
use Rattle.graph_comments.proofs.Steps.{stays_last, stays_closed}
use Rattle.graph_comments.proofs.Passing.{passed_line, passed_all, first_found}
use Rattle.graph_comments.proofs.bare.comment_behind.Goals as goal

pub returns-then-is_closing : goal.returns-then-is_closing
returns-then-is_closing c =
    passed_all c.args.bytes.now c.loop-line.rest.now c.loop-line.invariant (stays_closed c.loop-line.rest.now c.in-Some.line.now c.in-Some.after.now c.in-Some.ensures (sym c.if-is_closing.ensures))

pub returns-then-is_comment : goal.returns-then-is_comment
returns-then-is_comment c =
    first_found c.args.bytes.now c.loop-line.rest.now c.in-Some.line.now c.in-Some.after.now c.loop-line.invariant c.in-Some.ensures (sym c.if-is_closing.ensures) (sym c.if-is_comment.ensures)

pub loop-line-preserved : goal.loop-line-preserved
loop-line-preserved c =
    passed_line c.args.bytes.now c.loop-line.rest.now c.in-Some.line.now c.in-Some.after.now c.loop-line.invariant c.in-Some.ensures (sym c.if-is_closing.ensures) (sym c.if-is_comment.ensures)

pub returns : goal.returns
returns c = passed_all c.args.bytes.now c.loop-line.rest.now c.loop-line.invariant (stays_last c.loop-line.rest.now c.in_default.ensures)
