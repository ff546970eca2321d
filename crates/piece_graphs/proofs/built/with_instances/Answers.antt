use Rattle.std.proofs.Common.{◌≡◌, ◌∙◌, sym, ap, subst, List, ◌++◌}
use Rattle.std.specs.Prelude.{[]}
use Rattle.graph_terms.specs.declared.decl.Decl.{Decl}
use Rattle.graph_terms.specs.declared.format.Format.TheVariants.{Three}
use Rattle.graph_terms.specs.Graph.{GraphValue}
use Rattle.graph_terms.specs.Fits.{DeclsFit}
use Rattle.column_pieces.specs.Pieces.{decls_of_pieces, piece_decls}
use Rattle.piece_graphs.specs.Items.{of_decls}
use Rattle.piece_graphs.proofs.Items.{some_holds}
use Rattle.piece_graphs.proofs.built.with_instances.Goals as goal

pub with_pieces-requires-clause-bare : goal.with_pieces-requires-clause-bare
with_pieces-requires-clause-bare c = c.requires.spaces ∙ ap of_decls (sym (ap (λ (g : GraphValue). g.decls) c.requires.spaces))

pub with_lines-requires-clause-declared : goal.with_lines-requires-clause-declared
with_lines-requires-clause-declared c =
    some_holds (λ (g : GraphValue). g ≡ of_decls (c.args.spaces.decls ++ piece_decls 0 c.deref.result.now)) c.in_ok-cut.field-0 c.in-Some.cut c.in_ok-cut.ensures.some c.in-Some.is
    ∙ (ap (λ (ds : List Decl). of_decls (ds ++ piece_decls 0 c.deref.result.now)) (ap (λ (g : GraphValue). g.decls) c.requires.spaces)
    ∙ ap (λ ps. of_decls (decls_of_pieces c.args.graph.now c.args.columns.now.unions.items ps)) c.deref.ensures.value)

pub returns-in-None-clause-none : goal.returns-in-None-clause-none
returns-in-None-clause-none c = λ none fits.
    c.in_ok-cut.ensures.none c.in-None.is
    (subst (λ ps. DeclsFit Three [] (c.args.spaces.decls ++ piece_decls 0 ps)) (sym c.deref.ensures.value)
    (subst (λ (ds : List Decl). DeclsFit Three [] (ds ++ piece_decls 0 c.args.columns.now.pieces.items)) (sym (ap (λ (g : GraphValue). g.decls) c.requires.spaces)) fits.decls))
