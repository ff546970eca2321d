-- Why the columns of a graph are not cut.
use Rattle.std.specs.Prelude.{◌≡◌, ℕ, ◌<◌, ◌≤◌, ◌==◌, List, [], ◌∷◌, length, filter, Contains}
use Rattle.piece_graphs.specs.declared.limits.TheConstants.{MAX_PIECES}
use Rattle.std.specs.List.Sorted.{IsNonDecreasingBy}
use Rattle.index_spaces.specs.Space.{IsSpace}
use Rattle.graph_terms.specs.Graph.{GraphValue}
use Rattle.graph_terms.specs.Fits.{IsGraph}
use Rattle.column_pieces.specs.Pieces.{Unions, ArePieces, graph_of_pieces}
use Rattle.column_pieces.specs.declared.pieces.Piece.{Piece}
use Rattle.column_pieces.specs.declared.pieces.TheConstants.{MAX_COLUMN_PIECES}

-- no piece stands twice in a list
abbrev pub AreOnce : List Piece → Type 0
AreOnce [] = Unit {0}
AreOnce (x ∷ xs) = (Contains xs x → ⊥) × AreOnce xs

-- no column has two of these pieces
abbrev pub OneEach : List Piece → Type 0
OneEach pieces = (x y : Piece) → Contains pieces x → Contains pieces y → x.column ≡ y.column → x ≡ y

-- no column has more of these pieces than one is cut into
abbrev pub FewEach : List Piece → Type 0
FewEach pieces = (c : ℕ) → length (filter (λ (x : Piece). x.column == c) pieces) ≤ MAX_COLUMN_PIECES

-- these pieces stand in the order of their spaces: those over one space follow one another
abbrev pub AreInOrder : List Piece → Type 0
AreInOrder pieces = IsNonDecreasingBy (λ (x : Piece). x.space) pieces

-- unions are spaces
abbrev pub AreSpaces : Unions → Type 0
AreSpaces unions = (t : List (ℕ × ℕ)) → Contains unions t → IsSpace t

-- The columns of a graph are not cut: they have one piece each, or all have more pieces than a graph is cut into, or the graph of pieces is no graph,
-- though those over one space are fields of one instance.
pub data IsUncut (g : GraphValue) : Type 0 where
  whole : (unions : Unions) (pieces : List Piece) → ArePieces g unions pieces → OneEach pieces → IsUncut g
  many : (unions : Unions) (pieces : List Piece) → ArePieces g unions pieces → AreOnce pieces → FewEach pieces → MAX_PIECES < length pieces → IsUncut g
  unfit : (unions : Unions) (pieces : List Piece) → ArePieces g unions pieces → AreSpaces unions → AreOnce pieces → FewEach pieces → AreInOrder pieces → (IsGraph (graph_of_pieces g unions pieces) → ⊥) → IsUncut g
