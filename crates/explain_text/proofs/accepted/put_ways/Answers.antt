use Rattle.std.proofs.Common.{sym}
use Rattle.explain_text.proofs.AcceptedFacts.{ways_more}
use Rattle.explain_text.proofs.accepted.put_ways.Goals as goal

pub put_way-requires : goal.put_way-requires
put_way-requires c = λ e m. c.requires c.way-item.result e (c.loop-way.way-index, c.loop-way-test.true, sym c.way-item.is) m

pub loop-way-preserved : goal.loop-way-preserved
loop-way-preserved c =
    ways_more c.args.graph.now c.args.lines.now c.args.text.now c.loop-way.text c.put_way.new.text c.args.ways.now c.loop-way.way-index c.way-item.result c.loop-way-test.true c.way-item.is c.loop-way.invariant c.in_ok-put_way.ensures
