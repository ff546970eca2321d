use Rattle.std.proofs.Common.{arith}
use Rattle.refusal_text.proofs.RefusalFacts.{lines_begin, lines_more, lines_end}
use Rattle.refusal_text.proofs.lines.put_lines.Goals as goal

pub loop-i-init : goal.loop-i-init
loop-i-init c = lines_begin c.args.graph.now (c.args.lines.now) c.args.text.now

pub loop-i-preserved : goal.loop-i-preserved
loop-i-preserved c =
    lines_more c.args.graph.now (c.args.lines.now) c.args.text.now c.loop-i.text c.put_numbered.new.text c.args.numbers.now c.loop-i.i-index c.loop-i-test.true c.loop-i.invariant c.in_ok-put_numbered.ensures

pub returns : goal.returns
returns c = lines_end c.args.graph.now (c.args.lines.now) c.args.text.now c.loop-i.text c.args.numbers.now c.loop-i.i-index (omega (arith, c.loop-i-test.false)) c.loop-i.invariant
