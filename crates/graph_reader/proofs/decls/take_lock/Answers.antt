use Rattle.std.proofs.Common.{ap, sym, inl}
use Rattle.graph_terms.specs.declared.decl.Decl.TheVariants as decl
use Rattle.graph_words.specs.Draft.{lock_with}
use Rattle.graph_reader.proofs.DeclFaults.{done_by, lock_is}
use Rattle.graph_reader.proofs.decls.take_lock.Goals as goal

pub returns : goal.returns
returns c = done_by c.args.graph.now c.offer_decl.new.graph (lock_with c.args.name.now) (decl.Lock c.in-Some.name) _ c.offer_decl.result (lock_is c.args.graph.now c.args.name.now c.in-Some.name c.in-Some.ensures.1 c.in-Some.ensures.0) (ap (λ n. inl (decl.Lock n)) (sym c.in-Some.ensures.0)) c.offer_decl.ensures
