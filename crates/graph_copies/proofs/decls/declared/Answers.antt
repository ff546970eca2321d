use Rattle.graph_copies.proofs.DeclSteps.{decl_fits, decl_named, decl_more}
use Rattle.graph_copies.proofs.decls.declared.Goals as goal

pub add_decl-requires-clause-is_decl : goal.add_decl-requires-clause-is_decl
add_decl-requires-clause-is_decl c = (decl_fits c.loop-d.copy c.args.graph.now.format c.args.graph.now.decls c.loop-d.d c.decl.result.now c.in_ok-decl.decl c.decl.ensures.is_graph.decls c.loop-d.invariant c.decl.ensures.decl c.in_ok-decl.ensures).0

pub add_decl-requires-clause-fits : goal.add_decl-requires-clause-fits
add_decl-requires-clause-fits c = (decl_fits c.loop-d.copy c.args.graph.now.format c.args.graph.now.decls c.loop-d.d c.decl.result.now c.in_ok-decl.decl c.decl.ensures.is_graph.decls c.loop-d.invariant c.decl.ensures.decl c.in_ok-decl.ensures).1

pub add_decl-requires-clause-named : goal.add_decl-requires-clause-named
add_decl-requires-clause-named c = decl_named c.loop-d.copy c.args.graph.now.format c.args.graph.now.decls c.loop-d.d c.decl.result.now c.in_ok-decl.decl c.decl.ensures.is_graph.decls c.loop-d.invariant c.decl.ensures.decl c.in_ok-decl.ensures

pub loop-d-preserved : goal.loop-d-preserved
loop-d-preserved c = decl_more c.loop-d.copy c.add_decl.new.self c.args.graph.now.format c.args.graph.now.decls c.loop-d.d c.decl.result.now c.in_ok-decl.decl c.loop-d.invariant c.decl.ensures.decl c.in_ok-decl.ensures c.in_ok-add_decl.ensures.ok
