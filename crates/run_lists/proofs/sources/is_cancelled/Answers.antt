use Rattle.std.proofs.Common.{◌<◌, sym, subst, get_or}
use Rattle.run_lists.proofs.SourceFacts.{no_edge, source_known}
use Rattle.run_lists.proofs.sources.is_cancelled.Goals as goal

pub bounds-stages-edge : goal.bounds-stages-edge
bounds-stages-edge c =
    let es = c.edges_into-edge-items.result.now in
    subst (λ n. (get_or es c.loop-edge.edge-index no_edge).from < n) (sym c.requires.each) (source_known c.edges_between_lines.ensures c.args.graph.now c.lines.ensures.is_graph c.args.line c.loop-edge.edge-index es no_edge c.edges_into-edge-items.ensures c.loop-edge-test.true)
