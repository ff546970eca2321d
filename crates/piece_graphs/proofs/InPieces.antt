-- The graph of the pieces of an accepted graph is accepted.
use Rattle.std.proofs.Common.{◌≡◌, ℕ, true, List, sym, subst}
use Rattle.graph_terms.specs.Fits.{IsGraph}
use Rattle.graph_terms.specs.Format.{has_since}
use Rattle.graph_terms.specs.Graph.{GraphValue}
use Rattle.graph_terms.proofs.Public.{three_is_last}
use Rattle.graph_meaning.specs.Need.{IsNeed}
use Rattle.graph_meaning.specs.Rules.{Accepted}
use Rattle.column_pieces.specs.Cut.{IsCut}
use Rattle.column_pieces.specs.Laws.{PiecesAreAccepted, PiecesCut}
use Rattle.column_pieces.specs.Pieces.{Unions, ArePieces, graph_of_pieces, cut_of}
use Rattle.column_pieces.specs.declared.pieces.Piece.{Piece}

-- the graph of pieces cuts the graph
pub is_cut : PiecesCut → (g h : GraphValue) (us : Unions) (pieces : List Piece) → IsGraph g → ArePieces g us pieces → h ≡ graph_of_pieces g us pieces → IsCut g h (cut_of g us pieces)
is_cut cut g h us pieces fits are is = subst (λ k. IsCut g k (cut_of g us pieces)) (sym is) (cut g us pieces fits are)

-- and is accepted with its need
pub accepted : PiecesAreAccepted → PiecesCut → (g h : GraphValue) (us : Unions) (pieces : List Piece) → IsGraph g → IsGraph h → ArePieces g us pieces → h ≡ graph_of_pieces g us pieces →
    (Accepted g → Accepted h) × ((n : ℕ) → IsNeed g n → IsNeed h n)
accepted law cut g h us pieces fits h_fits are is =
    law g h (cut_of g us pieces) h_fits (subst (λ (k : GraphValue). has_since g.format k.format ≡ true) (sym is) (three_is_last g.format)) (is_cut cut g h us pieces fits are is)
