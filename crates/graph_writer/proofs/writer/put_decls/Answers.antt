use Rattle.graph_terms.specs.Spelling.{spelled, decl_words}
use Rattle.realm_io.proofs.Public.{stops, goes_on, breaks_off}
use Rattle.basics.proofs.ListParts.{flat_at}
use Rattle.graph_writer.proofs.writer.put_decls.Goals as goal

pub returns-in_err-put_decl : goal.returns-in_err-put_decl
returns-in_err-put_decl g c = stops _ _ _ c.from_residual.result c.from_residual.ensures.0 (breaks_off _ _ _ _ _ _ _ c.loop-d.invariant (flat_at (λ x. spelled (decl_words c.args.graph.now x)) (c.args.graph.now).decls c.loop-d.d c.decl.result.now c.decl.ensures.decl) c.in_err-put_decl.ensures)

pub loop-d-preserved : goal.loop-d-preserved
loop-d-preserved g c = goes_on _ _ _ _ _ _ _ c.loop-d.invariant (flat_at (λ x. spelled (decl_words c.args.graph.now x)) (c.args.graph.now).decls c.loop-d.d c.decl.result.now c.decl.ensures.decl) c.in_ok-put_decl.ensures
