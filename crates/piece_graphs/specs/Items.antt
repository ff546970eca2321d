-- Graphs in format 3 with declarations alone, and the instances of pieces.
use Rattle.std.specs.Prelude.{ℕ, zero, suc, ◌+◌, ◌==◌, Bool, true, not, cond, List, [], ◌∷◌, ◌++◌, slice_get}
use Rattle.std.specs.Option.{option_map_or}
use Rattle.graph_terms.specs.declared.decl.Decl.{Decl}
use Rattle.graph_terms.specs.declared.format.Format.TheVariants.{Three}
use Rattle.graph_terms.specs.Graph.{GraphValue}
use Rattle.column_pieces.specs.Pieces.{is_kept, piece_name}
use Rattle.column_pieces.specs.declared.pieces.Piece.{Piece}

-- the graph of these declarations
abbrev pub of_decls : List Decl → GraphValue
of_decls ds = record { format = Three; decls = ds; lines = [] }

-- a graph with a declaration at its end, unless that is an instance
abbrev pub with_kept : GraphValue → Decl → GraphValue
with_kept g d = record { format = g.format; decls = g.decls ++ cond (is_kept d) (d ∷ []) []; lines = g.lines }

-- the names of so many pieces, the first having number k
abbrev pub piece_names : ℕ → ℕ → List (List ℕ)
piece_names k zero = []
piece_names k (suc n) = piece_name k ∷ piece_names (k + 1) n

-- the piece behind the one of this number is over another space, if there is one
abbrev pub is_last : List Piece → ℕ → ℕ → Bool
is_last pieces k space = option_map_or (λ (y : Piece). not (y.space == space)) (slice_get pieces (k + 1)) true
