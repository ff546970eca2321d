-- Pieces of small graphs, by computing.
use Rattle.std.proofs.Common.{◌≡◌, ℕ, ◌+◌, ◌<◌, Bool, true, false, not, ◌&&◌, ◌||◌, ◌⊎◌, inl, inr, List, [], map, length, refl, sym, ◌∙◌, ap, subst}
use Rattle.std.specs.Prelude.{Option, Contains, option_map, ◌==◌}
use Rattle.std.specs.Option.{option_map_or}
use Rattle.std.specs.List.{list_any, list_all}
use Rattle.std.proofs.lemmas.Bool.{true≢false, cases_lt, and_parts, eqb-true, eq-eqb}
use Rattle.std.proofs.lemmas.Option.{slice_get_past}
use Rattle.basics.specs.Lists.{numbers_below}
use Rattle.basics.proofs.ListFacts.{contains_none, passes_each, some_passes, passes_some, contains_below}
use Rattle.index_spaces.specs.Space.{has_point, points, IsWithin}
use Rattle.index_spaces.proofs.Public.{points_are_listed}
use Rattle.graph_terms.specs.declared.verb.Access.{Access}
use Rattle.graph_terms.specs.declared.verb.Line.{Line}
use Rattle.graph_terms.specs.Graph.{GraphValue, named_spaces, space_at}
use Rattle.graph_terms.specs.Access.{accesses, in_format, verb_accesses}
use Rattle.column_pieces.specs.Pieces.{Unions, piece_space, has_cell, IsAccessed, IsConnected, IsWhole, ArePieces}
use Rattle.column_pieces.specs.declared.pieces.Piece.{Piece}
use Rattle.column_pieces.proofs.Components.{accesses_are_connected}

-- the test of an access and a piece that covers it
abbrev pub covered : GraphValue → Unions → Access → Piece → Bool
covered g us a x = (x.column == a.column) && list_all (has_point (piece_space g us x.space)) (points (space_at g a.space))

abbrev pub all_covered : GraphValue → Unions → List Piece → Bool
all_covered g us pieces = list_all (λ i. list_all (λ a. list_any (covered g us a) pieces) (accesses g i)) (numbers_below (length g.lines))

-- two pieces that are the same, or have no cell in common
abbrev pub is_apart : GraphValue → Unions → Piece → Piece → Bool
is_apart g us x y = ((x.column == y.column) && (x.space == y.space)) || (not (x.column == y.column) || not (list_any (has_point (piece_space g us y.space)) (points (piece_space g us x.space))))

abbrev pub all_apart : GraphValue → Unions → List Piece → Bool
all_apart g us pieces = list_all (λ x. list_all (is_apart g us x) pieces) pieces

-- whether a piece is over the space of an access
abbrev pub is_accessed : GraphValue → Piece → Bool
is_accessed g x = list_any (λ i. list_any (λ (a : Access). (a.column == x.column) && (a.space == x.space)) (accesses g i)) (numbers_below (length g.lines))

pub within_by : (s t : List (ℕ × ℕ)) → list_all (has_point t) (points s) ≡ true → IsWithin s t
within_by s t h p k = passes_each (has_point t) (points s) h p ((points_are_listed s p).1 k)

covers_by : (g : GraphValue) (us : Unions) (pieces : List Piece) → all_covered g us pieces ≡ true → (i : ℕ) (a : Access) → Contains (accesses g i) a →
    (x : Piece) × Contains pieces x × (x.column ≡ a.column) × IsWithin (space_at g a.space) (piece_space g us x.space)
covers_by g us pieces h i a k = elim (cases_lt i (length g.lines)) [
  | inl below ↦ (
      let each = passes_each (λ i. list_all (λ a. list_any (covered g us a) pieces) (accesses g i)) (numbers_below (length g.lines)) h i (contains_below (length g.lines) i below) in
      let x = some_passes (covered g us a) pieces (passes_each (λ a. list_any (covered g us a) pieces) (accesses g i) each a k) in
      let parts = and_parts (x.0.column == a.column) (list_all (has_point (piece_space g us x.0.space)) (points (space_at g a.space))) x.2 in
      (x.0, x.1, eqb-true x.0.column a.column parts.0, within_by (space_at g a.space) (piece_space g us x.0.space) parts.1))
  | inr past ↦ absurd (contains_none a (subst (λ (o : Option Line). Contains (map (in_format g.format) (option_map_or verb_accesses (option_map (λ (l : Line). l.verb) o) [])) a) (slice_get_past g.lines i past) k))
]

abbrev piece : ℕ → ℕ → Piece
piece c s = record { column = c; space = s }

same_piece : (x y : Piece) → x.column ≡ y.column → x.space ≡ y.space → x ≡ y
same_piece x y c s = ap (λ n. piece n x.space) c ∙ ap (piece y.column) s

not_both : (b : Bool) → not b ≡ true → b ≡ true → ⊥
not_both true n h = true≢false (sym n)
not_both false n h = true≢false (sym h)

apart_by : (g : GraphValue) (us : Unions) (pieces : List Piece) → all_apart g us pieces ≡ true → (x y : Piece) (c p : ℕ) → Contains pieces x → Contains pieces y → has_cell g us c p x ≡ true → has_cell g us c p y ≡ true → x ≡ y
apart_by g us pieces h x y c p kx ky hx hy =
    let px = and_parts (x.column == c) (has_point (piece_space g us x.space) p) hx in
    let py = and_parts (y.column == c) (has_point (piece_space g us y.space) p) hy in
    let columns : x.column ≡ y.column = eqb-true x.column c px.0 ∙ sym (eqb-true y.column c py.0) in
    let meet : list_any (has_point (piece_space g us y.space)) (points (piece_space g us x.space)) ≡ true = passes_some (has_point (piece_space g us y.space)) (points (piece_space g us x.space)) p ((points_are_listed (piece_space g us x.space) p).1 px.1) py.1 in
    by_test (x.column == y.column) (x.space == y.space) (list_any (has_point (piece_space g us y.space)) (points (piece_space g us x.space)))
    (passes_each (is_apart g us x) pieces (passes_each (λ x. list_all (is_apart g us x) pieces) pieces h x kx) y ky)
    (eq-eqb x.column y.column columns) meet columns (eqb-true x.space y.space)
  where
    by_test : (b s m : Bool) → ((b && s) || (not b || not m)) ≡ true → b ≡ true → m ≡ true → x.column ≡ y.column → (s ≡ true → x.space ≡ y.space) → x ≡ y
    by_test true true m t eb em columns spaces = same_piece x y columns (spaces refl)
    by_test true false m t eb em columns spaces = absurd (not_both m t em)
    by_test false s m t eb em columns spaces = absurd (true≢false (sym eb))

accessed_by : (g : GraphValue) (x : Piece) → is_accessed g x ≡ true → IsAccessed g x.column x.space
accessed_by g x h =
    let i = some_passes (λ i. list_any (λ (a : Access). (a.column == x.column) && (a.space == x.space)) (accesses g i)) (numbers_below (length g.lines)) h in
    let a = some_passes (λ (a : Access). (a.column == x.column) && (a.space == x.space)) (accesses g i.0) i.2 in
    let parts = and_parts (a.0.column == x.column) (a.0.space == x.space) a.2 in
    (i.0, a.0, a.1, eqb-true a.0.column x.column parts.0, eqb-true a.0.space x.space parts.1)

-- pieces that pass the tests; those over no space of an access are shown to hang together, or to be whole
pub pieces_by_computing : (g : GraphValue) (us : Unions) (pieces : List Piece) → all_covered g us pieces ≡ true → all_apart g us pieces ≡ true →
    ((x : Piece) → Contains pieces x → IsConnected g x.column (piece_space g us x.space) ⊎ IsWhole g x.column (piece_space g us x.space)) →
    ((k : ℕ) → k < length us → (x : Piece) × Contains pieces x × (x.space ≡ length (named_spaces g) + k)) → ArePieces g us pieces
pieces_by_computing g us pieces c a o u = record {
  covers = covers_by g us pieces c;
  apart = apart_by g us pieces a;
  over = o;
  used = u;
}

-- a piece over the space of an access
pub connected_by : (g : GraphValue) (x : Piece) → is_accessed g x ≡ true → IsConnected g x.column (space_at g x.space)
connected_by g x h = accesses_are_connected g x.column x.space (accessed_by g x h)
