use Rattle.std.proofs.Common.{arith, ◌≡◌}
use Rattle.std.specs.List.{slice_index_or}
use Rattle.graph_meaning.specs.Path.{last}
use Rattle.sweep_base.specs.Laws.{no_edge}
use Rattle.sweep_base.proofs.Public.{edge_in}
use Rattle.race_pairs.proofs.chained.waits_for.Goals as goal

pub returns-then-edge-other : goal.returns-then-edge-other
returns-then-edge-other c h =
    let es = c.edges_into-edges.result.now in
    let e = slice_index_or es c.loop-edge.edge-index no_edge in
    let is = edge_in c.args.graph.now c.args.line c.loop-edge.edge-index es c.edges_into-edges.ensures c.loop-edge-test.true in
    last e is.0 (let same : e.from ≡ c.args.other = omega arith in same) is.1
