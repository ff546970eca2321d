use Rattle.graph_gen.specs.MadeGraph.{made_of}
use Rattle.graph_gen.proofs.MakeSteps.{kept_by, row_fits_here}
use Rattle.graph_gen.proofs.make.Making.draw.Goals as goal

pub add_lines-requires : goal.add_lines-requires
add_lines-requires c =
    let m = made_of c.args.self.now in
    let kept = kept_by c.args.size m c.requires.size c.requires.made.0 c.requires.made.1 c.requires.made.2 c.requires.made.3 in
    row_fits_here c.args.size m c.args.self.now.graph.format c.args.self.now.graph.decls c.in_ok-lines.lines.items c.row_taken-row.result c.of-draw.result c.next_state-state.result c.lines-first.result
    c.requires.size kept c.requires.left c.requires.format c.requires.decls c.next_state-state.ensures c.of-draw.ensures c.lines-first.ensures.number c.row_taken-row.ensures c.in_ok-lines.ensures
