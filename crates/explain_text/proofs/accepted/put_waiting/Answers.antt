use Rattle.std.proofs.Common.{arith}
use Rattle.explain_text.specs.Accepted.{waiting_text}
use Rattle.explain_text.proofs.AcceptedFacts.{by_known, each_more}
use Rattle.explain_text.proofs.accepted.put_waiting.Goals as goal

pub put_one_waiting-requires : goal.put_one_waiting-requires
put_one_waiting-requires c = by_known c.args.graph.now c.args.reaches.now c.requires.edges c.loop-i.i

pub loop-i-preserved : goal.loop-i-preserved
loop-i-preserved c =
    each_more (waiting_text c.args.graph.now c.args.lines.now) c.args.text.now c.loop-i.text c.put_one_waiting.new.text c.args.reaches.now c.loop-i.i (omega (arith, c.loop-i-test.true, c.requires.few, c.lines-i-end.ensures.number)) c.loop-i.invariant c.in_ok-put_one_waiting.ensures
