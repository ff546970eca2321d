use Rattle.std.proofs.Common.{arith}
use Rattle.explanations.proofs.Marking.{no_edge}
use Rattle.explain_text.proofs.EdgeTexts.{edges_begin, edges_more, edges_end}
use Rattle.explain_text.proofs.lines.put_all_edges.Goals as goal

pub loop-edge-init : goal.loop-edge-init
loop-edge-init c = edges_begin c.args.graph.now c.args.lines.now c.args.text.now

pub loop-edge-preserved : goal.loop-edge-preserved
loop-edge-preserved c =
    edges_more c.args.graph.now c.args.lines.now c.args.text.now c.loop-edge.text c.put_edge.new.text c.args.path.now c.loop-edge.edge-index no_edge c.loop-edge-test.true c.loop-edge.invariant c.in_ok-put_edge.ensures

pub returns : goal.returns
returns c = edges_end c.args.graph.now c.args.lines.now c.args.text.now c.loop-edge.text c.args.path.now c.loop-edge.edge-index (omega (arith, c.loop-edge-test.false)) c.loop-edge.invariant
