-- Pieces: each is of a column, over a declared space, or over a union of such spaces. The graph of pieces declares each union, and has a field for each piece.
use Rattle.std.specs.Prelude.{◌≡◌, ℕ, ◌+◌, ◌-◌, ◌%◌, ◌/◌, ◌<◌, ◌==◌, ◌⊎◌, Bool, cond, nat_lt, not, ◌&&◌, List, [], ◌∷◌, ◌++◌, length, filter, position, find, Contains, slice_get, Some, IsTrue, codes}
use Rattle.std.specs.Option.{option_map_or}
use Rattle.index_spaces.specs.Space.{has_point, point_at, IsSpace, IsWithin}
use Rattle.index_spaces.specs.declared.limits.TheConstants.{MAX_INTERVALS_OF_THREE}
use Rattle.graph_terms.specs.declared.decl.Decl.{Decl}
use Rattle.graph_terms.specs.declared.decl.Decl.TheVariants.{Space, Inst}
use Rattle.graph_terms.specs.declared.format.Format.TheVariants.{Three}
use Rattle.graph_terms.specs.declared.verb.Access.{Access}
use Rattle.graph_terms.specs.Graph.{GraphValue, named_spaces, column_space, space_at}
use Rattle.graph_terms.specs.Fits.{is_inst}
use Rattle.graph_terms.specs.Access.{accesses}
use Rattle.column_pieces.specs.Cut.{Cut, lines_on}
use Rattle.column_pieces.specs.declared.pieces.Piece.{Piece}
use Rattle.column_pieces.specs.declared.pieces.TheConstants.{MAX_COLUMN_PIECES}

-- spaces that are unions of others
abbrev pub Unions : Type 0
Unions = List (List (ℕ × ℕ))

-- the space of a number: one of the graph, or a union, which are numbered behind those
abbrev pub piece_space : GraphValue → Unions → ℕ → List (ℕ × ℕ)
piece_space g unions s = cond (nat_lt s (length (named_spaces g))) (space_at g s) (option_map_or (λ t. t) (slice_get unions (s - length (named_spaces g))) [])

-- whether a piece has the cell of a column at a point
abbrev pub has_cell : GraphValue → Unions → ℕ → ℕ → Piece → Bool
has_cell g unions c p x = (x.column == c) && has_point (piece_space g unions x.space) p

-- the number of the piece that has a cell; behind all pieces, and apart for each column, where none has it
abbrev pub piece_at : GraphValue → Unions → List Piece → ℕ → ℕ → ℕ
piece_at g unions pieces c p = option_map_or (λ k. k) (position (has_cell g unions c p) pieces) (length pieces + c)

-- the column of the piece of a number
abbrev pub column_at : List Piece → ℕ → ℕ
column_at pieces k = option_map_or (λ (x : Piece). x.column) (slice_get pieces k) (k - length pieces)

-- the piece that a line names for a column: that with the first point of its access
abbrev pub named_at : GraphValue → Unions → List Piece → ℕ → ℕ → ℕ
named_at g unions pieces i c =
    option_map_or (λ (a : Access). piece_at g unions pieces c (point_at (space_at g a.space) 0)) (find (λ (a : Access). a.column == c) (accesses g i)) (length pieces + c)

-- how pieces cut the columns of a graph
abbrev pub cut_of : GraphValue → Unions → List Piece → Cut
cut_of g unions pieces = record { piece = piece_at g unions pieces; named = named_at g unions pieces; column = column_at pieces }

-- the names of pieces and of unions: "Piece_" or "Union_", and four letters
abbrev pub letter : ℕ → ℕ
letter n = 97 + n % 16

abbrev pub letters : ℕ → List ℕ
letters k = letter (k / 4096) ∷ letter (k / 256) ∷ letter (k / 16) ∷ letter k ∷ []

abbrev pub piece_name : ℕ → List ℕ
piece_name k = codes "Piece_" ++ letters k

abbrev pub union_name : ℕ → List ℕ
union_name k = codes "Union_" ++ letters k

-- the declarations of unions, the first having number k
abbrev pub union_decls : ℕ → Unions → List Decl
union_decls k [] = []
union_decls k (t ∷ ts) = Space (union_name k) t ∷ union_decls (k + 1) ts

-- the instance of a piece, with the fields of those that follow it over its space
abbrev pub piece_decl : ℕ → ℕ → List (List ℕ) → Decl
piece_decl k space fields = Inst (piece_name k) space (piece_name k ∷ fields)

-- a piece in front of the instances of those that follow it: it joins the first of them where that is over its space
abbrev pub with_piece : ℕ → Piece → List Decl → List Decl
with_piece k x (Inst name space fields ∷ ds) = cond (x.space == space) (piece_decl k x.space fields ∷ ds) (piece_decl k x.space [] ∷ Inst name space fields ∷ ds)
with_piece k x ds = piece_decl k x.space [] ∷ ds

-- the instances of pieces, the first having number k: pieces over one space that follow one another are fields of one
abbrev pub piece_decls : ℕ → List Piece → List Decl
piece_decls k [] = []
piece_decls k (x ∷ xs) = with_piece k x (piece_decls (k + 1) xs)

-- the declarations that are no instances
abbrev pub is_kept : Decl → Bool
is_kept d = not (is_inst d)

-- those of a graph of pieces: unions, and instances of pieces in place of those of the graph
abbrev pub decls_of_pieces : GraphValue → Unions → List Piece → List Decl
decls_of_pieces g unions pieces = (filter is_kept g.decls ++ union_decls 0 unions) ++ piece_decls 0 pieces

-- the graph of pieces, in format 3: pieces in place of columns
abbrev pub graph_of_pieces : GraphValue → Unions → List Piece → GraphValue
graph_of_pieces g unions pieces = record {
  format = Three;
  decls = decls_of_pieces g unions pieces;
  lines = lines_on (named_at g unions pieces) 0 g.lines;
}

-- a line accesses a column over a space
abbrev pub IsAccessed : GraphValue → ℕ → ℕ → Type 0
IsAccessed g c s = (i : ℕ) × (a : Access) × Contains (accesses g i) a × (a.column ≡ c) × (a.space ≡ s)

-- two points of a column are linked where an access names both, or where points between them are so
pub data Linked (g : GraphValue) (c : ℕ) : ℕ → ℕ → Type 0 where
  one : {p q : ℕ} → (i : ℕ) (a : Access) → Contains (accesses g i) a → a.column ≡ c → IsTrue (has_point (space_at g a.space) p) → IsTrue (has_point (space_at g a.space) q) → Linked g c p q
  more : {p q r : ℕ} → Linked g c p q → Linked g c q r → Linked g c p r

-- these points of a column hang together: those of an access are among them, and each two are linked
pub record IsConnected (g : GraphValue) (c : ℕ) (t : List (ℕ × ℕ)) : Type 0 where
  pub space : ℕ
  pub accessed : IsAccessed g c space
  pub has : IsWithin (space_at g space) t
  pub linked : (p q : ℕ) → IsTrue (has_point t p) → IsTrue (has_point t q) → Linked g c p q

-- a column is accessed over more spaces than it is cut into, no two of which hang together
pub record HasManyApart (g : GraphValue) (c : ℕ) : Type 0 where
  pub spaces : List ℕ
  pub accessed : (s : ℕ) → Contains spaces s → IsAccessed g c s
  pub apart : (j k s t p q : ℕ) → slice_get spaces j ≡ Some s → slice_get spaces k ≡ Some t → IsTrue (has_point (space_at g s) p) → IsTrue (has_point (space_at g t) q) → Linked g c p q → j ≡ k
  pub many : MAX_COLUMN_PIECES < length spaces

-- points of a column that hang together have more intervals than a space may have where it is declared
pub record HasWide (g : GraphValue) (c : ℕ) : Type 0 where
  pub points : List (ℕ × ℕ)
  pub connected : IsConnected g c points
  pub is_space : IsSpace points
  pub wide : MAX_INTERVALS_OF_THREE < length points

-- a column stays whole: these are all of its points, and no others
pub record IsWhole (g : GraphValue) (c : ℕ) (t : List (ℕ × ℕ)) : Type 0 where
  pub all_points : IsWithin (column_space g c) t
  pub no_others : IsWithin t (column_space g c)
  pub cause : HasManyApart g c ⊎ HasWide g c

-- These are the pieces of a graph, of which some are over these unions: each access lies within one piece of its column, two pieces of one column have no point
-- in common, and the points of each piece hang together, unless its column has too many components, or one of too many intervals: that column stays whole.
pub record ArePieces (g : GraphValue) (unions : Unions) (pieces : List Piece) : Type 0 where
  pub covers : (i : ℕ) (a : Access) → Contains (accesses g i) a → (x : Piece) × Contains pieces x × (x.column ≡ a.column) × IsWithin (space_at g a.space) (piece_space g unions x.space)
  pub apart : (x y : Piece) (c p : ℕ) → Contains pieces x → Contains pieces y → IsTrue (has_cell g unions c p x) → IsTrue (has_cell g unions c p y) → x ≡ y
  pub over : (x : Piece) → Contains pieces x → IsConnected g x.column (piece_space g unions x.space) ⊎ IsWhole g x.column (piece_space g unions x.space)
  -- each union is the space of a piece
  pub used : (k : ℕ) → k < length unions → (x : Piece) × Contains pieces x × (x.space ≡ length (named_spaces g) + k)
