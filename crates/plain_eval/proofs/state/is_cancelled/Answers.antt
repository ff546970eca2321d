use Rattle.std.proofs.Common.{◌<◌, refl, subst, sym, get_or}
use Rattle.plain_eval.proofs.WaitingFacts.{no_edge}
use Rattle.plain_eval.proofs.StateFacts.{source_known, cancelled_by, not_cancelled_by}
use Rattle.plain_eval.proofs.state.is_cancelled.Goals as goal

pub bounds-ends-edge : goal.bounds-ends-edge
bounds-ends-edge c =
    subst (λ n. (get_or c.edges_into-edges.result.now c.loop-edge.edge-index no_edge).from < n) (sym c.requires.count) (source_known c.edges_between_lines.ensures c.args.graph.now c.lines.ensures.is_graph c.args.line c.loop-edge.edge-index c.edges_into-edges.result.now no_edge c.edges_into-edges.ensures c.loop-edge-test.true)

pub returns-then-cancels : goal.returns-then-cancels
returns-then-cancels c ss all =
    let es = c.edges_into-edges.result.now in
    cancelled_by c.args.graph.now ss c.args.line c.loop-edge.edge-index es no_edge c.args.ends.now _ _ c.cancels.result c.edges_into-edges.ensures c.loop-edge-test.true
    (source_known c.edges_between_lines.ensures c.args.graph.now c.lines.ensures.is_graph c.args.line c.loop-edge.edge-index es no_edge c.edges_into-edges.ensures c.loop-edge-test.true) all refl c.cancels.ensures c.if-cancels.true

pub loop-edge-preserved : goal.loop-edge-preserved
loop-edge-preserved c = record {
  none = λ ss all. (let es = c.edges_into-edges.result.now in
      not_cancelled_by c.args.graph.now ss c.loop-edge.edge-index es no_edge c.args.ends.now _ _ c.cancels.result c.loop-edge-test.true
      (source_known c.edges_between_lines.ensures c.args.graph.now c.lines.ensures.is_graph c.args.line c.loop-edge.edge-index es no_edge c.edges_into-edges.ensures c.loop-edge-test.true) all refl c.cancels.ensures c.if-cancels.false (c.loop-edge.invariant.none ss all));
}
