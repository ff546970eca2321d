-- The pieces of each column, over its parts.
use Rattle.std.specs.Prelude.{◌≡◌, ℕ, ◌+◌, ◌<◌, ◌≤◌, List, [], ◌∷◌, ◌++◌, length, map, Contains, Some, slice_get, Vec}
use Rattle.std.specs.Global.{Global}
use Rattle.index_spaces.specs.Space.{IsSpace}
use Rattle.graph_terms.specs.Graph.{GraphValue, named_spaces}
use Rattle.column_pieces.specs.Pieces.{Unions, piece_space}
use Rattle.column_pieces.specs.declared.pieces.Piece.{Piece}
use Rattle.column_parts.specs.declared.parts.Part.{Part}
use Rattle.column_parts.specs.declared.parts.Part.TheVariants.{Declared, Union}
use Rattle.column_parts.specs.Parts.{spaces, AreFound}
use Rattle.piece_graphs.specs.Uncut.{AreSpaces}

-- the piece of column c over a part; a union is put behind the others, and numbered behind n spaces
abbrev pub IsPieceOf : ℕ → ℕ → Part → Unions → Unions → Piece → Type 0
IsPieceOf n c (Declared s) old new x = (new ≡ old) × (x ≡ record { column = c; space = s })
IsPieceOf n c (Union t) old new x = (new ≡ old ++ t ∷ []) × (x ≡ record { column = c; space = n + length old }) × IsSpace t

-- the spaces of pieces, and of the pieces of each column
abbrev pub own_spaces : GraphValue → Unions → List Piece → Unions
own_spaces g unions pieces = map (λ (x : Piece). piece_space g unions x.space) pieces

abbrev pub piece_spaces : GraphValue → Unions → List (Vec Piece Global) → List Unions
piece_spaces g unions lists = map (λ (v : Vec Piece Global). own_spaces g unions v.items) lists

-- the pieces of a column, over its parts, with unions behind those of the columns before
pub record AreOver (g : GraphValue) (c : ℕ) (parts : List Part) (old new : Unions) (pieces : List Piece) : Type 0 where
  pub spaces_are : (later : Unions) → own_spaces g (new ++ later) pieces ≡ spaces g parts
  pub own : (x : Piece) → Contains pieces x → x.column ≡ c
  pub used : (k : ℕ) → length old ≤ k → k < length new → (x : Piece) × Contains pieces x × (x.space ≡ length (named_spaces g) + k)
  pub grown : (more : Unions) × (new ≡ old ++ more)
  pub keeps_spaces : AreSpaces old → AreSpaces new

-- the pieces of each column of a graph, of which some are over these unions
pub record AreOwnPieces (g : GraphValue) (unions : Unions) (lists : List (Vec Piece Global)) : Type 0 where
  pub found : AreFound g (piece_spaces g unions lists) (length g.lines)
  pub own : (c : ℕ) (v : Vec Piece Global) (x : Piece) → slice_get lists c ≡ Some v → Contains v.items x → x.column ≡ c
  pub used : (k : ℕ) → k < length unions → (c : ℕ) × (v : Vec Piece Global) × (x : Piece) × (slice_get lists c ≡ Some v) × Contains v.items x × (x.space ≡ length (named_spaces g) + k)
  pub are_spaces : AreSpaces unions
