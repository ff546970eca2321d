use Rattle.std.proofs.Common.{◌≡◌, ◌++◌}
use Rattle.std.specs.Prelude.{[], filter}
use Rattle.graph_terms.specs.Graph.{GraphValue}
use Rattle.column_pieces.specs.Pieces.{is_kept, union_decls, piece_decls}
use Rattle.piece_graphs.specs.Items.{of_decls}
use Rattle.piece_graphs.proofs.Items.{first_fit, some_holds}
use Rattle.piece_graphs.proofs.built.graph_of_pieces.Goals as goal

pub with_items-requires-clause-kept : goal.with_items-requires-clause-kept
with_items-requires-clause-kept c = some_holds (λ (g : GraphValue). g ≡ of_decls (filter is_kept c.args.graph.now.decls)) c.in_ok-kept.field-0 c.in-Some.kept c.in_ok-kept.ensures.some c.in-Some.is

pub returns-in-None-clause-none : goal.returns-in-None-clause-none
returns-in-None-clause-none c = λ none fits.
    let kept = filter is_kept c.args.graph.now.decls in
    let unions = union_decls 0 c.args.columns.now.unions.items in
    c.in_ok-kept.ensures.none c.in-None.is (first_fit [] kept unions (first_fit [] (kept ++ unions) (piece_decls 0 c.args.columns.now.pieces.items) fits.decls))
