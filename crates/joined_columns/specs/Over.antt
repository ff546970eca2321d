-- Columns over the spaces of pieces.
use Rattle.std.specs.Prelude.{◌≡◌, ℕ, List, map}
use Rattle.index_spaces.specs.Column.{ColumnValue}
use Rattle.graph_terms.specs.Graph.{GraphValue}
use Rattle.graph_meaning.specs.Evaluation.{outcome}
use Rattle.column_pieces.specs.Pieces.{Unions, piece_space, graph_of_pieces}
use Rattle.column_pieces.specs.declared.pieces.Piece.{Piece}

-- there is a column for each piece, over its space
abbrev pub AreOver : GraphValue → Unions → List Piece → List ColumnValue → Type 0
AreOver g unions pieces parts = map (λ (x : ColumnValue). x.space) parts ≡ map (λ (x : Piece). piece_space g unions x.space) pieces

-- the columns that a graph of pieces gives are so
abbrev pub OutcomesAreOver : Type 0
OutcomesAreOver = (g : GraphValue) (unions : Unions) (pieces : List Piece) (trace : List ℕ) → AreOver g unions pieces (outcome (graph_of_pieces g unions pieces) trace).columns
