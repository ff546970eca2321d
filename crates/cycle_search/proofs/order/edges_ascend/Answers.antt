use Rattle.std.proofs.Common.{◌<◌, arith}
use Rattle.graph_terms.specs.declared.verb.Edge.{Edge}
use Rattle.cycle_search.proofs.EdgeLoops.{passed_more, passed_into}
use Rattle.cycle_search.proofs.order.edges_ascend.Goals as goal

pub loop-edge-preserved : goal.loop-edge-preserved
loop-edge-preserved c = passed_more (λ (e : Edge). e.from < c.args.line) c.edges_into-edges.result.now c.loop-edge.edge-index c.loop-edge-test.true (omega (arith, c.if-edge-line.false)) c.loop-edge.invariant

pub returns : goal.returns
returns c h = passed_into (λ (e : Edge). e.from < c.args.line) c.args.graph.now c.args.line c.edges_into-edges.result.now c.edges_into-edges.ensures c.loop-edge.edge-index (omega (arith, c.loop-edge-test.false)) c.loop-edge.invariant
