-- What holds of every graph whose columns are cut.
use Rattle.std.specs.Prelude.{◌≡◌, ℕ, ◌<◌, true, ◌↔◌, List, length, map, Contains, IsTrue}
use Rattle.index_spaces.specs.Space.{has_point, IsWithin}
use Rattle.graph_terms.specs.declared.decl.ColumnInfo.{ColumnInfo}
use Rattle.graph_terms.specs.Format.{has_since}
use Rattle.graph_terms.specs.Graph.{GraphValue, named_spaces, columns, column_space, space_at}
use Rattle.graph_terms.specs.Fits.{IsGraph}
use Rattle.graph_meaning.specs.Rules.{Accepted}
use Rattle.graph_meaning.specs.Need.{IsNeed}
use Rattle.graph_meaning.specs.Evaluation.{outcome}
use Rattle.graph_meaning.specs.Trace.{IsLawful}
use Rattle.column_pieces.specs.Cut.{Cut, IsCut}
use Rattle.column_pieces.specs.Joined.{joined}
use Rattle.column_pieces.specs.Pieces.{Unions, IsWhole, IsConnected, IsAccessed, Linked, ArePieces, piece_space, graph_of_pieces, cut_of}
use Rattle.column_pieces.specs.declared.pieces.Piece.{Piece}

-- the outcome of the graph of pieces, put together, is the outcome of the graph
abbrev pub OutcomeOfPieces : Type 0
OutcomeOfPieces = (g h : GraphValue) (cut : Cut) (trace : List ℕ) → IsGraph h → IsCut g h cut → joined g cut (outcome h trace) ≡ outcome g trace

-- a lawful trace of the graph of pieces is one of the graph
abbrev pub TracesOfPieces : Type 0
TracesOfPieces = (g h : GraphValue) (cut : Cut) (trace : List ℕ) → IsCut g h cut → IsLawful h trace → IsLawful g trace

-- where a graph is accepted, the graph of pieces, in its format or in a later one, is too, with the same need
abbrev pub PiecesAreAccepted : Type 0
PiecesAreAccepted = (g h : GraphValue) (cut : Cut) → IsGraph h → has_since g.format h.format ≡ true → IsCut g h cut → (Accepted g → Accepted h) × ((n : ℕ) → IsNeed g n → IsNeed h n)

-- pieces cut their graph
abbrev pub PiecesCut : Type 0
PiecesCut = (g : GraphValue) (unions : Unions) (pieces : List Piece) → IsGraph g → ArePieces g unions pieces → IsCut g (graph_of_pieces g unions pieces) (cut_of g unions pieces)

-- a piece is of a column of the graph, and has none but points of it
abbrev pub PiecesLieWithin : Type 0
PiecesLieWithin = (g : GraphValue) (unions : Unions) (pieces : List Piece) (x : Piece) → IsGraph g → ArePieces g unions pieces → Contains pieces x →
    (x.column < length (columns g)) × IsWithin (piece_space g unions x.space) (column_space g x.column)

-- the graph of pieces has the spaces of the graph, and the unions behind them
abbrev pub PiecesKeepSpaces : Type 0
PiecesKeepSpaces = (g : GraphValue) (unions : Unions) (pieces : List Piece) (s : ℕ) → space_at (graph_of_pieces g unions pieces) s ≡ piece_space g unions s

-- and a column for each piece, over its space
abbrev pub ColumnsArePieces : Type 0
ColumnsArePieces = (g : GraphValue) (unions : Unions) (pieces : List Piece) → map (λ (y : ColumnInfo). y.space) (columns (graph_of_pieces g unions pieces)) ≡ map (λ (x : Piece). x.space) pieces

-- a piece is a connected component of what the accesses of its column name, unless that column stays whole: from a point of it, just its points are linked
abbrev pub PiecesAreComponents : Type 0
PiecesAreComponents = (g : GraphValue) (unions : Unions) (pieces : List Piece) (x : Piece) (p q : ℕ) → ArePieces g unions pieces → Contains pieces x →
    (IsWhole g x.column (piece_space g unions x.space) → ⊥) → IsTrue (has_point (piece_space g unions x.space) p) → Linked g x.column p q ↔ IsTrue (has_point (piece_space g unions x.space) q)

-- the points of an access hang together
abbrev pub AccessesAreConnected : Type 0
AccessesAreConnected = (g : GraphValue) (c s : ℕ) → IsAccessed g c s → IsConnected g c (space_at g s)

-- and so do points that are linked with one of them, both ways
abbrev pub ConnectedByPoint : Type 0
ConnectedByPoint = (g : GraphValue) (c s b : ℕ) (t : List (ℕ × ℕ)) → IsAccessed g c s → IsWithin (space_at g s) t →
    ((p : ℕ) → IsTrue (has_point t p) → Linked g c p b × Linked g c b p) → IsConnected g c t

-- points that hang together lie within their column
abbrev pub ConnectedLieWithin : Type 0
ConnectedLieWithin = (g : GraphValue) (c : ℕ) (t : List (ℕ × ℕ)) → IsGraph g → IsConnected g c t → IsWithin t (column_space g c)

-- the space of a number that the graph has
abbrev pub SpacesKeepNumbers : Type 0
SpacesKeepNumbers = (g : GraphValue) (unions : Unions) (s : ℕ) → s < length (named_spaces g) → piece_space g unions s ≡ space_at g s
