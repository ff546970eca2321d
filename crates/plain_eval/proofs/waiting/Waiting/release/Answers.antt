use Rattle.std.proofs.Common.{refl, arith}
use Rattle.std.specs.BTreeSet.{contains}
use Rattle.std.specs.Ordering.{nat_cmp}
use Rattle.plain_eval.proofs.WaitingFacts.{edge_known, still_waits, passes_more, all_passed, no_edge}
use Rattle.plain_eval.proofs.waiting.Waiting.release.Goals as goal

pub pass-requires-clause-known : goal.pass-requires-clause-known
pass-requires-clause-known c =
    edge_known c.edges_between_lines.ensures c.args.graph.now c.lines.ensures.is_graph c.args.line c.loop-edge.edge-index c.edges_from-edges.result.now no_edge c.edges_from-edges.ensures c.loop-edge-test.true

pub pass-requires-clause-count : goal.pass-requires-clause-count
pass-requires-clause-count c = (c.loop-edge.invariant.passing c.requires.free.0 c.requires.free.1).lines

pub pass-requires-clause-waits : goal.pass-requires-clause-waits
pass-requires-clause-waits c =
    let g = c.args.graph.now in
    let es = c.edges_from-edges.result.now in
    let known = edge_known c.edges_between_lines.ensures g c.lines.ensures.is_graph c.args.line c.loop-edge.edge-index es no_edge c.edges_from-edges.ensures c.loop-edge-test.true in
    still_waits g c.requires.free.0 c.args.line c.args.self.now.left.items c.loop-edge.self.left.items (contains nat_cmp c.args.self.now.ready) (contains nat_cmp c.loop-edge.self.ready) c.loop-edge.edge-index no_edge es c.edges_from-edges.ensures
    c.requires.free.1 (c.loop-edge.invariant.passing c.requires.free.0 c.requires.free.1) c.loop-edge-test.true known

pub loop-edge-preserved : goal.loop-edge-preserved
loop-edge-preserved c =
    let g = c.args.graph.now in
    let es = c.edges_from-edges.result.now in
    let known = edge_known c.edges_between_lines.ensures g c.lines.ensures.is_graph c.args.line c.loop-edge.edge-index es no_edge c.edges_from-edges.ensures c.loop-edge-test.true in
    record {
      passing = λ ended free. passes_more g ended c.args.line c.args.self.now.left.items c.loop-edge.self.left.items c.pass.new.self.left.items (contains nat_cmp c.args.self.now.ready) (contains nat_cmp c.loop-edge.self.ready) (contains nat_cmp c.pass.new.self.ready)
          c.loop-edge.edge-index no_edge es c.edges_from-edges.ensures free (c.loop-edge.invariant.passing ended free) c.loop-edge-test.true _ refl known c.in_ok-pass.ensures.left c.in_ok-pass.ensures.ready;
    }

pub returns : goal.returns
returns c ended free =
    let g = c.args.graph.now in
    all_passed g ended c.args.line c.args.self.now.left.items c.loop-edge.self.left.items (contains nat_cmp c.args.self.now.ready) (contains nat_cmp c.loop-edge.self.ready) c.loop-edge.edge-index c.edges_from-edges.result.now c.edges_from-edges.ensures free (c.loop-edge.invariant.passing ended free) (omega arith)
