-- Pieces are connected components.
use Rattle.std.proofs.Common.{◌≡◌, ℕ, true, inl, inr, List, refl, sym, ◌∙◌, subst}
use Rattle.std.specs.Prelude.{Contains}
use Rattle.std.proofs.lemmas.Bool.{and_from, eq-eqb}
use Rattle.index_spaces.specs.Space.{has_point}
use Rattle.graph_terms.specs.Graph.{GraphValue, space_at}
use Rattle.column_pieces.specs.Pieces.{Unions, piece_space, has_cell, Linked, one, more, ArePieces}
use Rattle.column_pieces.specs.declared.pieces.Piece.{Piece}
use Rattle.column_pieces.specs.Laws.{PiecesAreComponents, AccessesAreConnected, ConnectedByPoint}

module _ (g : GraphValue) (us : Unions) (pieces : List Piece) (are : ArePieces g us pieces) (x : Piece) (here : Contains pieces x) where
  at : (y : Piece) (c p : ℕ) → y.column ≡ c → has_point (piece_space g us y.space) p ≡ true → has_cell g us c p y ≡ true
  at y c p e h = and_from _ _ (eq-eqb y.column c e) h

  -- no link leads out of a piece
  stays : {p q : ℕ} → Linked g x.column p q → has_point (piece_space g us x.space) p ≡ true → has_point (piece_space g us x.space) q ≡ true
  stays {p} {q} (one i a k c hp hq) h =
      let y = are.covers i a k in
      let column : y.0.column ≡ x.column = y.2 ∙ c in
      let same : y.0 ≡ x = are.apart y.0 x x.column p y.1 here (at y.0 x.column p column (y.3 p hp)) (at x x.column p refl h) in
      subst (λ (z : Piece). has_point (piece_space g us z.space) q ≡ true) same (y.3 q hq)
  stays (more l m) h = stays m (stays l h)

pub pieces_are_components : PiecesAreComponents
pieces_are_components g us pieces x p q are here part h = (
  λ l. stays g us pieces are x here l h,
  λ k. elim (are.over x here) [
    | inl connected ↦ connected.linked p q h k
    | inr whole ↦ absurd (part whole)
  ],
)

pub accesses_are_connected : AccessesAreConnected
accesses_are_connected g c s a = record {
  space = s;
  accessed = a;
  has = λ p h. h;
  linked = λ p q h k. one a.0 a.1 a.2 a.3 (subst (λ t. has_point (space_at g t) p ≡ true) (sym a.4) h) (subst (λ t. has_point (space_at g t) q ≡ true) (sym a.4) k);
}

pub connected_by_point : ConnectedByPoint
connected_by_point g c s b t a within links = record {
  space = s;
  accessed = a;
  has = within;
  linked = λ p q h k. more (links p h).0 (links q k).1;
}
