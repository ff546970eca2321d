use Rattle.std.proofs.Common.{◌≡◌, [], rules, refl, sym, subst}
use Rattle.std.specs.Vec.Iter.{into_iter_items}
use Rattle.graph_terms.specs.declared.format.Format.TheVariants.{One}
use Rattle.graph_terms.specs.Fits.{DeclsFit}
use Rattle.graph_gen.specs.MadeGraph.{made_decls}
use Rattle.graph_gen.proofs.Draws.{decls_fit}
use Rattle.graph_gen.proofs.declarations.declared.Goals as goal

pub loop-decl-init : goal.loop-decl-init
loop-decl-init c =
    let e : into_iter_items c.into_iter-decl-iterator.result ≡ made_decls = search rules in
    (search rules, subst (DeclsFit One []) (sym e) decls_fit, refl, search rules)
