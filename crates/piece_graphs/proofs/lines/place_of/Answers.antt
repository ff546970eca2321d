use Rattle.std.proofs.Common.{◌≡◌, ◌∙◌, refl, sym, ap, subst, length}
use Rattle.std.specs.Prelude.{true, false, Some, Contains, slice_get}
use Rattle.std.proofs.lemmas.Option.{same_Some, slice_get_read, slice_get_within}
use Rattle.basics.proofs.ListFacts.{got_contains}
use Rattle.index_spaces.specs.Space.{has_point, point_at}
use Rattle.graph_terms.specs.Graph.{space_at}
use Rattle.column_pieces.specs.Pieces.{piece_space}
use Rattle.piece_graphs.specs.declared.numbered.Place.{Place}
use Rattle.piece_graphs.proofs.Placing.{placed_at, placed_nowhere}
use Rattle.piece_graphs.proofs.lines.place_of.Goals as goal

pub returns-in-Some : goal.returns-in-Some
returns-in-Some c =
    let g = c.args.graph.now in
    let x = c.args.columns.now in
    let own = c.index-own.result.now in
    let q = point_at (space_at g c.args.space) 0 in
    let at : slice_get x.places.items c.args.column ≡ Some own = slice_get_read x.places.items (length x.places.items) c.args.column own refl c.requires.known c.index-own.ensures in
    let f = c.in-Some.ensures.some in
    let p = f.0 in
    let got : slice_get own.items c.in-Some.k ≡ Some p = ap (λ ps. slice_get ps c.in-Some.k) (sym c.deref-2.ensures.value) ∙ f.1 in
    let point : has_point (piece_space g x.unions.items p.space) q ≡ true = subst (λ us. has_point (piece_space g us p.space) q ≡ true) c.deref.ensures.value f.2 in
    let read : slice_get own.items c.in-Some.k ≡ Some c.index.result.now = slice_get_read own.items (length own.items) c.in-Some.k c.index.result.now refl (slice_get_within own.items c.in-Some.k p got) c.index.ensures in
    ap (λ (r : Place). r.number) (same_Some c.index.result.now p (sym read ∙ got)) ∙ placed_at g x c.requires.columns c.args.column q own at p (got_contains own.items c.in-Some.k p got) point

pub returns-in-None : goal.returns-in-None
returns-in-None c =
    let g = c.args.graph.now in
    let x = c.args.columns.now in
    let own = c.index-own.result.now in
    let q = point_at (space_at g c.args.space) 0 in
    let at : slice_get x.places.items c.args.column ≡ Some own = slice_get_read x.places.items (length x.places.items) c.args.column own refl c.requires.known c.index-own.ensures in
    placed_nowhere g x c.requires.columns c.args.column q own at
    (λ p k. subst (λ us. has_point (piece_space g us p.space) q ≡ false) c.deref.ensures.value (c.place_in.ensures.none c.in-None.is p (subst (λ ps. Contains ps p) (sym c.deref-2.ensures.value) k)))
