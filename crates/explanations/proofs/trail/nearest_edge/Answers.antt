use Rattle.std.proofs.Common.{◌<◌, sym, subst}
use Rattle.std.specs.List.{slice_index_or}
use Rattle.explanations.specs.Search.{near_end}
use Rattle.explanations.proofs.Marking.{no_edge}
use Rattle.explanations.proofs.Levels.{back_known}
use Rattle.explanations.proofs.trail.nearest_edge.Goals as goal

pub nearer-best-requires-clause-edge : goal.nearer-best-requires-clause-edge
nearer-best-requires-clause-edge c =
    let es = c.edges_back-edges.result.now in
    subst (λ n. near_end c.args.way (slice_index_or es c.loop-edge.edge-index no_edge) < n) (sym c.requires.size)
    (back_known c.edges_between_lines.ensures c.args.graph.now c.lines.ensures.is_graph c.args.way c.args.line c.loop-edge.edge-index es c.edges_back-edges.ensures c.loop-edge-test.true)
