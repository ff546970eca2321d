-- The piece that a line names in place of a column, as the code looks for it: a column that the line does not access keeps its number.
use Rattle.std.specs.Prelude.{ℕ, ◌==◌, List, position, find}
use Rattle.std.specs.Option.{option_map_or}
use Rattle.index_spaces.specs.Space.{point_at}
use Rattle.graph_terms.specs.declared.verb.Access.{Access}
use Rattle.graph_terms.specs.Graph.{GraphValue, space_at}
use Rattle.graph_terms.specs.Access.{accesses}
use Rattle.column_pieces.specs.Pieces.{Unions, has_cell}
use Rattle.column_pieces.specs.declared.pieces.Piece.{Piece}

-- the number of the piece that has the cell of a column at a point
abbrev pub place_of : GraphValue → Unions → List Piece → ℕ → ℕ → ℕ
place_of g unions pieces c p = option_map_or (λ k. k) (position (has_cell g unions c p) pieces) c

abbrev pub name_of : GraphValue → Unions → List Piece → ℕ → ℕ → ℕ
name_of g unions pieces i c = option_map_or (λ (a : Access). place_of g unions pieces c (point_at (space_at g a.space) 0)) (find (λ (a : Access). a.column == c) (accesses g i)) c
