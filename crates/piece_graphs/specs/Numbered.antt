-- The pieces of all columns, and their numbers.
use Rattle.std.specs.Prelude.{◌≡◌, ℕ, ◌<◌, ◌≤◌, ◌↔◌, ◌⊎◌, nat_lt, Bool, List, [], ◌∷◌, ◌++◌, length, Contains, slice_get, Some, Vec}
use Rattle.std.specs.Global.{Global}
use Rattle.std.specs.List.{list_any}
use Rattle.std.specs.List.Sorted.{IsPermutation}
use Rattle.graph_terms.specs.Graph.{GraphValue, columns}
use Rattle.column_pieces.specs.Pieces.{ArePieces}
use Rattle.column_pieces.specs.declared.pieces.Piece.{Piece}
use Rattle.piece_graphs.specs.Uncut.{AreOnce, FewEach, AreInOrder, AreSpaces}
use Rattle.piece_graphs.specs.declared.limits.TheConstants.{MAX_PIECES}
use Rattle.piece_graphs.specs.declared.numbered.ColumnPieces.{ColumnPieces}
use Rattle.piece_graphs.specs.declared.numbered.Place.{Place}

-- the pieces of all columns, one column after another
abbrev pub all_pieces : List (Vec Piece Global) → List Piece
all_pieces [] = []
all_pieces (v ∷ vs) = v.items ++ all_pieces vs

-- each piece is of a column that has a list
abbrev pub AreKnown : List (Vec Piece Global) → Type 0
AreKnown lists = (x : Piece) → Contains (all_pieces lists) x → x.column < length lists

-- the piece of column c that has a place
abbrev pub piece_of : ℕ → Place → Piece
piece_of c p = record { column = c; space = p.space }

-- these places are those of the pieces of a column
abbrev pub AreOfColumn : List Piece → ℕ → List Place → Type 0
AreOfColumn pieces c places = (p : Place) → Contains places p ↔ (slice_get pieces p.number ≡ Some (piece_of c p))

-- the places of the pieces of each of n columns
pub record ArePlaces (n : ℕ) (pieces : List Piece) (places : List (Vec Place Global)) : Type 0 where
  pub count : length places ≡ n
  pub each : (c : ℕ) (v : Vec Place Global) → slice_get places c ≡ Some v → AreOfColumn pieces c v.items

-- a piece and its number are put behind those of its column
pub record IsPlaced (old new : List (Vec Place Global)) (x : Piece) (number : ℕ) : Type 0 where
  pub count : length new ≡ length old
  pub each : (c : ℕ) (w : Vec Place Global) → slice_get new c ≡ Some w → (v : Vec Place Global) × (slice_get old c ≡ Some v)
      × ((p : Place) → Contains w.items p ↔ (Contains v.items p ⊎ ((x ≡ piece_of c p) × (p.number ≡ number))))

-- the pieces of these columns are numbered in the order of their spaces, and are not too many
pub record AreNumbered (lists : List (Vec Piece Global)) (x : ColumnPieces) : Type 0 where
  pub same : IsPermutation (all_pieces lists) x.pieces.items
  pub few : length x.pieces.items ≤ MAX_PIECES
  pub order : AreInOrder x.pieces.items
  pub places : ArePlaces (length lists) x.pieces.items x.places.items

-- the pieces of a graph, with their numbers
pub record AreColumns (g : GraphValue) (x : ColumnPieces) : Type 0 where
  pub pieces : ArePieces g x.unions.items x.pieces.items
  pub spaces : AreSpaces x.unions.items
  pub once : AreOnce x.pieces.items
  pub few_each : FewEach x.pieces.items
  pub few : length x.pieces.items ≤ MAX_PIECES
  pub order : AreInOrder x.pieces.items
  pub places : ArePlaces (length (columns g)) x.pieces.items x.places.items

-- a column has two pieces
abbrev pub has_two : List (Vec Piece Global) → Bool
has_two lists = list_any (λ (v : Vec Piece Global). nat_lt 1 (length v.items)) lists
