use Rattle.std.proofs.Common.{◌≡◌, ◌∙◌, sym, ap, subst, List, ◌++◌}
use Rattle.std.specs.Prelude.{[], filter}
use Rattle.graph_terms.specs.declared.decl.Decl.{Decl}
use Rattle.graph_terms.specs.declared.format.Format.TheVariants.{Three}
use Rattle.graph_terms.specs.Graph.{GraphValue}
use Rattle.graph_terms.specs.Fits.{DeclsFit}
use Rattle.column_pieces.specs.Pieces.{is_kept, union_decls, piece_decls}
use Rattle.piece_graphs.specs.Items.{of_decls}
use Rattle.piece_graphs.proofs.Items.{first_fit, some_holds}
use Rattle.piece_graphs.proofs.built.with_items.Goals as goal

pub with_unions-requires : goal.with_unions-requires
with_unions-requires c = c.requires.kept ∙ ap of_decls (sym (ap (λ (g : GraphValue). g.decls) c.requires.kept))

pub with_instances-requires-clause-spaces : goal.with_instances-requires-clause-spaces
with_instances-requires-clause-spaces c =
    some_holds (λ (g : GraphValue). g ≡ of_decls (c.args.kept.decls ++ union_decls 0 c.deref.result.now)) c.in_ok-spaces.field-0 c.in-Some.spaces c.in_ok-spaces.ensures.some c.in-Some.is
    ∙ (ap (λ (ds : List Decl). of_decls (ds ++ union_decls 0 c.deref.result.now)) (ap (λ (g : GraphValue). g.decls) c.requires.kept)
    ∙ ap (λ us. of_decls (filter is_kept c.args.graph.now.decls ++ union_decls 0 us)) c.deref.ensures.value)

pub returns-in-None-clause-none : goal.returns-in-None-clause-none
returns-in-None-clause-none c = λ none fits.
    let us = c.args.columns.now.unions.items in
    c.in_ok-spaces.ensures.none c.in-None.is
    (subst (λ vs. DeclsFit Three [] (c.args.kept.decls ++ union_decls 0 vs)) (sym c.deref.ensures.value)
    (subst (λ (ds : List Decl). DeclsFit Three [] (ds ++ union_decls 0 us)) (sym (ap (λ (g : GraphValue). g.decls) c.requires.kept))
    (first_fit [] (filter is_kept c.args.graph.now.decls ++ union_decls 0 us) (piece_decls 0 c.args.columns.now.pieces.items) fits.decls)))
