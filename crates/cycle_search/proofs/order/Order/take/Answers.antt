use Rattle.cycle_search.proofs.OrderLoops.{to_below, size_stays, room_stays, passed}
use Rattle.cycle_search.proofs.order.Order.take.Goals as goal

pub pass-requires-clause-known : goal.pass-requires-clause-known
pass-requires-clause-known c =
    let g = c.args.graph.now in
    let known = to_below g (λ e m. c.edges_between_lines.ensures g e c.lines.ensures.is_graph m) c.loop-edge.self.lines.items c.loop-edge.self.left.items c.args.taken c.args.line c.loop-edge.edge-index c.edges_from-edges.result.now c.edges_from-edges.ensures
    c.loop-edge.invariant.taking c.loop-edge-test.true c.loop-edge.invariant.size in known

pub loop-edge-preserved : goal.loop-edge-preserved
loop-edge-preserved c =
    let g = c.args.graph.now in
    record {
      size = size_stays g (λ e m. c.edges_between_lines.ensures g e c.lines.ensures.is_graph m) c.loop-edge.self.lines.items c.loop-edge.self.left.items c.args.taken c.args.line c.loop-edge.edge-index c.edges_from-edges.result.now c.edges_from-edges.ensures
          c.loop-edge.invariant.taking c.loop-edge-test.true c.loop-edge.invariant.size c.pass.new.self.left.items c.in_ok-pass.ensures.left;
      room = room_stays g (λ e m. c.edges_between_lines.ensures g e c.lines.ensures.is_graph m) c.loop-edge.self.lines.items c.loop-edge.self.left.items c.args.taken c.args.line c.loop-edge.edge-index c.edges_from-edges.result.now c.edges_from-edges.ensures
          c.loop-edge.invariant.taking c.loop-edge-test.true c.loop-edge.invariant.size c.pass.new.self.left.items c.in_ok-pass.ensures.left c.pass.new.self.lines.items c.in_ok-pass.ensures.lines c.loop-edge.invariant.room;
      taking = passed g (λ e m. c.edges_between_lines.ensures g e c.lines.ensures.is_graph m) c.loop-edge.self.lines.items c.loop-edge.self.left.items c.args.taken c.args.line c.loop-edge.edge-index c.edges_from-edges.result.now c.edges_from-edges.ensures
          c.loop-edge.invariant.taking c.loop-edge-test.true c.loop-edge.invariant.size c.pass.new.self.left.items c.in_ok-pass.ensures.left c.pass.new.self.lines.items c.in_ok-pass.ensures.lines;
    }
