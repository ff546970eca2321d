use Rattle.graph_terms.specs.Graph.{GraphValue}
use Rattle.graph_model.proofs.CountLaws.{decl_counts_read}
use Rattle.graph_model.proofs.graph.Graph.counts_with_decl.Goals as goal

pub returns : goal.returns
returns c =
    let g : GraphValue = record { format = c.self.inside.format; decls = c.self.inside.decls.items; lines = c.self.inside.lines.items } in
    decl_counts_read g c.args.self.now c.args.decl.now c.self.inside.counts c.decl_size.result c.spaces_of.result c.insts_of.result c.columns_of.result c.cells_of.result c.locks_of.result c.barriers_of.result
    c.self.view_is c.self.invariant.fits c.self.invariant.counts c.decl_size.ensures.size c.spaces_of.ensures.number c.insts_of.ensures.number c.columns_of.ensures.number c.cells_of.ensures.cells c.locks_of.ensures.number c.barriers_of.ensures.number
