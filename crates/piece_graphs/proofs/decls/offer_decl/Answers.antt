use Rattle.piece_graphs.proofs.Items.{decl_named}
use Rattle.piece_graphs.proofs.decls.offer_decl.Goals as goal

pub add_decl-requires-clause-named : goal.add_decl-requires-clause-named
add_decl-requires-clause-named c = decl_named c.args.graph.now.format c.args.decl c.requires.three c.is_well_formed.ensures
