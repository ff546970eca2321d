use Rattle.std.proofs.Common.{sym, ◌++◌}
use Rattle.basics.proofs.Choices.{last_by}
use Rattle.graph_comments.specs.Comments.{lines, joined, kept}
use Rattle.graph_comments.proofs.Steps.{stays_last, stays_closed}
use Rattle.graph_comments.proofs.Passing.{put_step, put_last}
use Rattle.graph_comments.proofs.bare.put_kept.Goals as goal

pub returns-then-is_closing : goal.returns-then-is_closing
returns-then-is_closing c =
    last_by c.put.result (put_last c.loop-line.bare.items c.put.new.bare.items c.loop-line.rest.now (c.args.bare.now.items ++ joined (kept (lines c.args.bytes.now)))
    (stays_closed c.loop-line.rest.now c.in-Some.line.now c.in-Some.behind.now c.in-Some.ensures (sym c.if-is_closing.ensures)) c.loop-line.invariant) c.put.ensures

pub loop-line-preserved : goal.loop-line-preserved
loop-line-preserved c =
    put_step c.loop-line.bare.items c.put_line.new.bare.items c.loop-line.rest.now c.in-Some.line.now c.in-Some.behind.now (c.args.bare.now.items ++ joined (kept (lines c.args.bytes.now)))
    c.in-Some.ensures (sym c.if-is_closing.ensures) c.in_ok-put_line.ensures c.loop-line.invariant

pub returns : goal.returns
returns c =
    last_by c.put-2.result (put_last c.loop-line.bare.items c.put-2.new.bare.items c.loop-line.rest.now (c.args.bare.now.items ++ joined (kept (lines c.args.bytes.now)))
    (stays_last c.loop-line.rest.now c.in_default.ensures) c.loop-line.invariant) c.put-2.ensures
