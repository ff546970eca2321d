use Rattle.section_sweeps.proofs.Placing.{order_placed, are_placed, are_forward}
use Rattle.section_sweeps.proofs.lookups.Table.new.Goals as goal

pub places-requires : goal.places-requires
places-requires c = order_placed c.args.graph.now c.args.order.now c.requires.placed c.requires.count

pub returns : goal.returns
returns c =
    let g = c.args.graph.now in
    record {
      is_graph = c.lines.ensures.is_graph;
      placed = are_placed g c.args.order.now c.in_ok-copied.field-0.items c.in_ok-places.field-0.items c.requires.placed c.requires.count c.in_ok-copied.ensures c.in_ok-places.ensures;
      forward = are_forward g c.lines.ensures.is_graph c.edges_between_lines.ensures c.args.order.now c.in_ok-places.field-0.items c.requires.placed c.requires.count c.in_ok-places.ensures;
      releases_are = c.in_ok-releases.ensures;
    }
