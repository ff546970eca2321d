use Rattle.std.proofs.Common.{◌≤◌, arith}
use Rattle.std.specs.Prelude.{slice_index}
use Rattle.graph_terms.specs.declared.verb.Edge.{Edge}
use Rattle.cycle_search.proofs.EdgeLoops.{passed_more, passed_into, source_below}
use Rattle.cycle_search.proofs.ranks.highest_source.Goals as goal

pub bounds-ranks-edge : goal.bounds-ranks-edge
bounds-ranks-edge c =
    let g = c.args.graph.now in
    let known = source_below g (λ e m. c.edges_between_lines.ensures g e c.lines.ensures.is_graph m) c.args.line c.loop-edge.edge-index c.edges_into-edges.result.now c.edges_into-edges.ensures c.loop-edge-test.true in
    omega (arith, known, c.requires.size)

pub loop-edge-preserved : goal.loop-edge-preserved
loop-edge-preserved c =
    let ranks = c.args.ranks.now in
    passed_more (λ (e : Edge). slice_index ranks e.from ≤ c.max-highest.result) c.edges_into-edges.result.now c.loop-edge.edge-index c.loop-edge-test.true (omega (arith, c.max-highest.ensures)) (λ e before. (let l = c.loop-edge.invariant e before in omega (arith, c.max-highest.ensures, l)))

pub returns : goal.returns
returns c = passed_into (λ (e : Edge). slice_index c.args.ranks.now e.from ≤ c.loop-edge.highest) c.args.graph.now c.args.line c.edges_into-edges.result.now c.edges_into-edges.ensures c.loop-edge.edge-index (omega (arith, c.loop-edge-test.false)) c.loop-edge.invariant
