use Rattle.std.proofs.Common.{◌<◌, sym, arith}
use Rattle.graph_comments.proofs.Steps.{fewer_behind}
use Rattle.graph_comments.proofs.Passing.{counts_last, counts_comment, counts_later}
use Rattle.graph_comments.proofs.numbers.comments_above.Goals as goal

pub loop-line-preserved-then-is_comment : goal.loop-line-preserved-then-is_comment
loop-line-preserved-then-is_comment c =
    let s = counts_comment c.loop-line.left c.loop-line.rest.now c.in-Some.line.now c.in-Some.behind.now c.in-Some.ensures (sym c.if-is_closing.ensures) (sym c.if-is_comment.ensures) in
    let f = fewer_behind c.loop-line.rest.now c.in-Some.line.now c.in-Some.behind.now c.in-Some.ensures in
    record { above = omega (arith, s, c.loop-line.invariant.above); few = omega (arith, f, c.loop-line.invariant.few) }

pub loop-line-preserved : goal.loop-line-preserved
loop-line-preserved c =
    let m : 0 < c.loop-line.left = omega (arith, c.if-left-eq0.false) in
    let s = counts_later c.loop-line.left c.loop-line.rest.now c.in-Some.line.now c.in-Some.behind.now c.in-Some.ensures (sym c.if-is_closing.ensures) (sym c.if-is_comment.ensures) m in
    let f = fewer_behind c.loop-line.rest.now c.in-Some.line.now c.in-Some.behind.now c.in-Some.ensures in
    record { above = omega (arith, s, c.loop-line.invariant.above); few = omega (arith, f, c.loop-line.invariant.few) }

pub returns-clause-above : goal.returns-clause-above
returns-clause-above c = omega (arith, counts_last c.loop-line.left c.loop-line.rest.now c.in_default.ensures, c.loop-line.invariant.above)
