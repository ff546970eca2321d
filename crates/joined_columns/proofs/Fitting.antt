-- Pieces lie within their columns.
use Rattle.std.proofs.Common.{◌≡◌, ℕ, ◌<◌, List, [], length, get_or, sym, ◌∙◌, ap, subst, arith}
use Rattle.std.specs.Prelude.{Some, Contains, slice_get}
use Rattle.std.proofs.lemmas.Option.{get_or_from_slice_get}
use Rattle.std.proofs.lemmas.List.{length-map, get_or-map}
use Rattle.index_spaces.specs.Space.{IsWithin}
use Rattle.index_spaces.specs.Column.{ColumnValue}
use Rattle.graph_terms.specs.Fits.{IsGraph}
use Rattle.graph_terms.specs.Graph.{GraphValue, columns, column_space}
use Rattle.column_pieces.specs.Pieces.{Unions, piece_space, ArePieces}
use Rattle.column_pieces.proofs.Public.{pieces_lie_within}
use Rattle.column_pieces.specs.declared.pieces.Piece.{Piece}
use Rattle.joined_columns.specs.Over.{AreOver}

pub piece_below : (g : GraphValue) → IsGraph g → (us : Unions) (pieces : List Piece) → ArePieces g us pieces → (x : Piece) → Contains pieces x → x.column < length (columns g)
piece_below g fits us pieces are x k = (pieces_lie_within g us pieces x fits are k).0

-- there are as many parts as pieces, each over the space of its piece
pub parts_number : (g : GraphValue) (us : Unions) (pieces : List Piece) (parts : List ColumnValue) → AreOver g us pieces parts → length parts ≡ length pieces
parts_number g us pieces parts over =
    sym (length-map parts (λ (x : ColumnValue). x.space)) ∙ (ap length over ∙ length-map pieces (λ (x : Piece). piece_space g us x.space))

pub part_over : (g : GraphValue) (us : Unions) (pieces : List Piece) (parts : List ColumnValue) (k : ℕ) (y : ColumnValue) (d : Piece) → AreOver g us pieces parts → k < length pieces → slice_get parts k ≡ Some y →
    y.space ≡ piece_space g us (get_or pieces k d).space
part_over g us pieces parts k y d over below at =
    let none : ColumnValue = record { space = []; cells = [] } in
    let long = parts_number g us pieces parts over in
    ap (λ (x : ColumnValue). x.space) (sym (get_or_from_slice_get parts k y none at))
    ∙ (sym (get_or-map (λ (x : ColumnValue). x.space) parts k none [] (omega arith))
    ∙ (ap (λ vs. get_or vs k []) over
    ∙ get_or-map (λ (x : Piece). piece_space g us x.space) pieces k d [] below))

-- a part lies within its column, over the space of which another stands
pub part_within : (g : GraphValue) → IsGraph g → (us : Unions) (pieces : List Piece) → ArePieces g us pieces → (x : Piece) → Contains pieces x → (y old : ColumnValue) → y.space ≡ piece_space g us x.space → old.space ≡ column_space g x.column →
    IsWithin y.space old.space
part_within g fits us pieces are x k y old over is =
    subst (λ s. IsWithin s old.space) (sym over) (subst (IsWithin (piece_space g us x.space)) (sym is) (pieces_lie_within g us pieces x fits are k).1)
