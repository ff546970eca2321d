-- Pieces cut their graph.
use Rattle.std.proofs.Common.{◌≡◌, ℕ, zero, suc, ◌+◌, ◌-◌, ◌<◌, ◌≤◌, Bool, true, false, cond, inl, inr, List, [], ◌∷◌, ◌++◌, length, map, get_or, refl, sym, ◌∙◌, ap, subst, arith, append-nil}
use Rattle.std.specs.Prelude.{Option, Some, None, Contains, option_map, slice_get, filter, filter_map, flat_map, nat_lt, position, find, ◌==◌}
use Rattle.std.specs.Option.{option_map_or}
use Rattle.std.specs.List.{position_from, cons_option}
use Rattle.std.proofs.lemmas.Bool.{true≢false, cases_eq, cases_lt, and_parts, and_from, eq-eqb, eqb-true, lt-ltb, le-ltb, cond-true, cond-false}
use Rattle.std.proofs.lemmas.Option.{none-some, same_Some, slice_get-get_or, slice_get_past, slice_get-map}
use Rattle.std.proofs.lemmas.List.{length-map}
use Rattle.std.proofs.lemmas.List.Elements.{filter_map-append, Contains-get_or}
use Rattle.std.proofs.lemmas.List.Quantifiers.{position-Some}
use Rattle.std.proofs.lemmas.Iterator.Adapters.{position_from-zero}
use Rattle.std.proofs.lemmas.Grind.{flat_map-append}
use Rattle.basics.proofs.ListFacts.{contains_here, contains_there, find_is, find_none}
use Rattle.basics.proofs.Choices.{same_test}
use Rattle.index_spaces.specs.Space.{has_point, points, point_at}
use Rattle.index_spaces.proofs.Public.{points_are_listed}
use Rattle.graph_terms.specs.declared.decl.Decl.{Decl}
use Rattle.graph_terms.specs.declared.decl.Decl.TheVariants.{Space, Inst, Data, Lock, Barrier}
use Rattle.graph_terms.specs.declared.decl.ColumnInfo.{ColumnInfo}
use Rattle.graph_terms.specs.declared.verb.Access.{Access}
use Rattle.graph_terms.specs.Fits.{IsGraph}
use Rattle.graph_terms.specs.Graph.{GraphValue, space_of, barrier_of, columns_of, named_spaces, barriers, columns, column_space, space_at}
use Rattle.graph_terms.specs.Access.{accesses}
use Rattle.graph_meaning.proofs.Public.{columns_differ, all_accesses_fit}
use Rattle.column_pieces.specs.Cut.{IsCut}
use Rattle.column_pieces.specs.Pieces.{Unions, piece_space, has_cell, piece_at, column_at, cut_of, union_decls, piece_name, piece_decl, with_piece, piece_decls, is_kept, graph_of_pieces, ArePieces}
use Rattle.column_pieces.specs.declared.pieces.Piece.{Piece}
use Rattle.column_pieces.specs.Laws.{PiecesCut, PiecesKeepSpaces, SpacesKeepNumbers, ColumnsArePieces}

-- DECLARATIONS
kept_none : {X : Type 0} (f : Decl → Option X) → ((n : List ℕ) (s : ℕ) (fs : List (List ℕ)) → f (Inst n s fs) ≡ None) → (ds : List Decl) → filter_map f (filter is_kept ds) ≡ filter_map f ds
kept_none f h [] = refl
kept_none f h (Space n s ∷ ds) = ap (cons_option (f (Space n s))) (kept_none f h ds)
kept_none f h (Inst n s fs ∷ ds) = kept_none f h ds ∙ sym (ap (λ o. cons_option o (filter_map f ds)) (h n s fs))
kept_none f h (Data n s fs ∷ ds) = ap (cons_option (f (Data n s fs))) (kept_none f h ds)
kept_none f h (Lock n ∷ ds) = ap (cons_option (f (Lock n))) (kept_none f h ds)
kept_none f h (Barrier n k o v ∷ ds) = ap (cons_option (f (Barrier n k o v))) (kept_none f h ds)

union_items : {X : Type 0} (f : Decl → Option X) → ((n : List ℕ) (t : List (ℕ × ℕ)) → f (Space n t) ≡ None) → (k : ℕ) (us : Unions) → filter_map f (union_decls k us) ≡ []
union_items f h k [] = refl
union_items f h k (u ∷ us) = ap (λ o. cons_option o (filter_map f (union_decls (k + 1) us))) (h _ _) ∙ union_items f h (k + 1) us

none_of_one : {X : Type 0} (f : Decl → Option X) → ((n : List ℕ) (s : ℕ) (fs : List (List ℕ)) → f (Inst n s fs) ≡ None) → (k : ℕ) (x : Piece) (ds : List Decl) → filter_map f (with_piece k x ds) ≡ filter_map f ds
none_of_one f h k x [] = ap (λ o. cons_option o []) (h _ _ _)
none_of_one f h k x (Inst n s fs ∷ ds) = by (x.space == s)
  where
    by : (b : Bool) → filter_map f (cond b (piece_decl k x.space fs ∷ ds) (piece_decl k x.space [] ∷ Inst n s fs ∷ ds)) ≡ filter_map f (Inst n s fs ∷ ds)
    by true = ap (λ o. cons_option o (filter_map f ds)) (h _ _ _ ∙ sym (h n s fs))
    by false = ap (λ o. cons_option o (filter_map f (Inst n s fs ∷ ds))) (h _ _ _)
none_of_one f h k x (Space n s ∷ ds) = ap (λ o. cons_option o (filter_map f (Space n s ∷ ds))) (h _ _ _)
none_of_one f h k x (Data n s fs ∷ ds) = ap (λ o. cons_option o (filter_map f (Data n s fs ∷ ds))) (h _ _ _)
none_of_one f h k x (Lock n ∷ ds) = ap (λ o. cons_option o (filter_map f (Lock n ∷ ds))) (h _ _ _)
none_of_one f h k x (Barrier n m o v ∷ ds) = ap (λ p. cons_option p (filter_map f (Barrier n m o v ∷ ds))) (h _ _ _)

none_of_pieces : {X : Type 0} (f : Decl → Option X) → ((n : List ℕ) (s : ℕ) (fs : List (List ℕ)) → f (Inst n s fs) ≡ None) → (k : ℕ) (xs : List Piece) → filter_map f (piece_decls k xs) ≡ []
none_of_pieces f h k [] = refl
none_of_pieces f h k (x ∷ xs) = none_of_one f h k x (piece_decls (k + 1) xs) ∙ none_of_pieces f h (k + 1) xs

same_items : {X : Type 0} (f : Decl → Option X) → ((n : List ℕ) (s : ℕ) (fs : List (List ℕ)) → f (Inst n s fs) ≡ None) → (ds : List Decl) (us : Unions) (xs : List Piece) →
    filter_map f ((filter is_kept ds ++ union_decls 0 us) ++ piece_decls 0 xs) ≡ filter_map f ds ++ filter_map f (union_decls 0 us)
same_items f h ds us xs =
    filter_map-append f (filter is_kept ds ++ union_decls 0 us) (piece_decls 0 xs)
    ∙ (ap (λ ys. filter_map f (filter is_kept ds ++ union_decls 0 us) ++ ys) (none_of_pieces f h 0 xs) ∙ (append-nil (filter_map f (filter is_kept ds ++ union_decls 0 us))
    ∙ (filter_map-append f (filter is_kept ds) (union_decls 0 us) ∙ ap (λ ys. ys ++ filter_map f (union_decls 0 us)) (kept_none f h ds))))

-- the spaces of unions
abbrev space_in : List (List ℕ × List (ℕ × ℕ)) → ℕ → List (ℕ × ℕ)
space_in xs s = option_map_or (λ x. x.1) (slice_get xs s) []

union_got : (k : ℕ) (us : Unions) (j : ℕ) → space_in (filter_map space_of (union_decls k us)) j ≡ option_map_or (λ t. t) (slice_get us j) []
union_got k [] j = refl
union_got k (u ∷ us) zero = refl
union_got k (u ∷ us) (suc j) = union_got (k + 1) us j

got_first : {X : Type 0} (xs ys : List X) (s : ℕ) → s < length xs → slice_get (xs ++ ys) s ≡ slice_get xs s
got_first [] ys s h = absurd (omega arith)
got_first (x ∷ xs) ys zero h = refl
got_first (x ∷ xs) ys (suc s) h = got_first xs ys s (omega arith)

got_later : {X : Type 0} (xs ys : List X) (s : ℕ) → length xs ≤ s → slice_get (xs ++ ys) s ≡ slice_get ys (s - length xs)
got_later [] ys s h = ap (slice_get ys) (let e : s ≡ s - 0 = omega arith in e)
got_later (x ∷ xs) ys zero h = absurd (omega arith)
got_later (x ∷ xs) ys (suc s) h = got_later xs ys s (omega arith) ∙ ap (slice_get ys) (let e : s - length xs ≡ suc s - suc (length xs) = omega arith in e)

space_appended : (xs ys : List (List ℕ × List (ℕ × ℕ))) (s : ℕ) → space_in (xs ++ ys) s ≡ cond (nat_lt s (length xs)) (space_in xs s) (space_in ys (s - length xs))
space_appended xs ys s = elim (cases_lt s (length xs)) [
  | inl below ↦ ap (λ o. option_map_or (λ x. x.1) o []) (got_first xs ys s below) ∙ sym (cond-true (nat_lt s (length xs)) _ _ (lt-ltb s (length xs) below))
  | inr past ↦ ap (λ o. option_map_or (λ x. x.1) o []) (got_later xs ys s past) ∙ sym (cond-false (nat_lt s (length xs)) _ _ (le-ltb s (length xs) past))
]

no_unions : (k : ℕ) (us : Unions) → flat_map columns_of (union_decls k us) ≡ []
no_unions k [] = refl
no_unions k (u ∷ us) = no_unions (k + 1) us

no_columns : (ds : List Decl) → flat_map columns_of (filter is_kept ds) ≡ []
no_columns [] = refl
no_columns (Space n s ∷ ds) = no_columns ds
no_columns (Inst n s fs ∷ ds) = no_columns ds
no_columns (Data n s fs ∷ ds) = no_columns ds
no_columns (Lock n ∷ ds) = no_columns ds
no_columns (Barrier n k o v ∷ ds) = no_columns ds

piece_columns : (ds : List Decl) (us : Unions) (xs : List Piece) → flat_map columns_of ((filter is_kept ds ++ union_decls 0 us) ++ piece_decls 0 xs) ≡ flat_map columns_of (piece_decls 0 xs)
piece_columns ds us xs =
    flat_map-append columns_of (filter is_kept ds ++ union_decls 0 us) (piece_decls 0 xs)
    ∙ (ap (λ ys. ys ++ flat_map columns_of (piece_decls 0 xs)) (flat_map-append columns_of (filter is_kept ds) (union_decls 0 us))
    ∙ (ap (λ ys. (ys ++ flat_map columns_of (union_decls 0 us)) ++ flat_map columns_of (piece_decls 0 xs)) (no_columns ds)
    ∙ ap (λ ys. ys ++ flat_map columns_of (piece_decls 0 xs)) (no_unions 0 us)))

-- the spaces of the columns of declarations
abbrev spaces_in : List Decl → List ℕ
spaces_in ds = map (λ (y : ColumnInfo). y.space) (flat_map columns_of ds)

-- those of the fields of an instance don't depend on its name
fields_over : (n m : List ℕ) (s : ℕ) (fs : List (List ℕ)) (ds : List Decl) → spaces_in (Inst n s fs ∷ ds) ≡ spaces_in (Inst m s fs ∷ ds)
fields_over n m s [] ds = refl
fields_over n m s (f ∷ fs) ds = ap (λ ys. s ∷ ys) (fields_over n m s fs ds)

one_over : (k : ℕ) (x : Piece) (ds : List Decl) → spaces_in (with_piece k x ds) ≡ x.space ∷ spaces_in ds
one_over k x [] = refl
one_over k x (Inst n s fs ∷ ds) = by (x.space == s) (eqb-true x.space s)
  where
    by : (b : Bool) → (b ≡ true → x.space ≡ s) → spaces_in (cond b (piece_decl k x.space fs ∷ ds) (piece_decl k x.space [] ∷ Inst n s fs ∷ ds)) ≡ x.space ∷ spaces_in (Inst n s fs ∷ ds)
    by true same = ap (λ ys. x.space ∷ ys) (fields_over (piece_name k) n x.space fs ds ∙ ap (λ t. spaces_in (Inst n t fs ∷ ds)) (same refl))
    by false same = refl
one_over k x (Space n s ∷ ds) = refl
one_over k x (Data n s fs ∷ ds) = refl
one_over k x (Lock n ∷ ds) = refl
one_over k x (Barrier n m o v ∷ ds) = refl

columns_over : (k : ℕ) (xs : List Piece) → spaces_in (piece_decls k xs) ≡ map (λ (x : Piece). x.space) xs
columns_over k [] = refl
columns_over k (x ∷ xs) = one_over k x (piece_decls (k + 1) xs) ∙ ap (λ ys. x.space ∷ ys) (columns_over (k + 1) xs)

columns_number : (k : ℕ) (xs : List Piece) → length (flat_map columns_of (piece_decls k xs)) ≡ length xs
columns_number k xs =
    sym (length-map (flat_map columns_of (piece_decls k xs)) (λ (y : ColumnInfo). y.space)) ∙ (ap length (columns_over k xs) ∙ length-map xs (λ (x : Piece). x.space))

pub pieces_keep_spaces : PiecesKeepSpaces
pieces_keep_spaces g us pieces s =
    ap (λ xs. space_in xs s) (same_items space_of (λ n k fs. refl) g.decls us pieces)
    ∙ (space_appended (filter_map space_of g.decls) (filter_map space_of (union_decls 0 us)) s
    ∙ ap (cond (nat_lt s (length (named_spaces g))) (space_at g s)) (union_got 0 us (s - length (named_spaces g))))

pub spaces_keep_numbers : SpacesKeepNumbers
spaces_keep_numbers g us s below = cond-true (nat_lt s (length (named_spaces g))) _ _ (lt-ltb s (length (named_spaces g)) below)

pub columns_are_pieces : ColumnsArePieces
columns_are_pieces g us pieces = ap (map (λ (y : ColumnInfo). y.space)) (piece_columns g.decls us pieces) ∙ columns_over 0 pieces

column_got : (k : ℕ) (xs : List Piece) (j : ℕ) → option_map (λ (y : ColumnInfo). y.space) (slice_get (flat_map columns_of (piece_decls k xs)) j) ≡ option_map (λ (x : Piece). x.space) (slice_get xs j)
column_got k xs j =
    sym (slice_get-map (λ (y : ColumnInfo). y.space) (flat_map columns_of (piece_decls k xs)) j) ∙ (ap (λ ys. slice_get ys j) (columns_over k xs) ∙ slice_get-map (λ (x : Piece). x.space) xs j)

-- POSITIONS
position_same : {X : Type 0} (s t : X → Bool) (xs : List X) (k : ℕ) → ((x : X) → Contains xs x → s x ≡ t x) → position_from s k xs ≡ position_from t k xs
position_same s t [] k h = refl
position_same s t (x ∷ xs) k h =
    ap (λ b. cond b (Some k) (position_from s (k + 1) xs)) (h x (contains_here x xs))
    ∙ ap (cond (t x) (Some k)) (position_same s t xs (k + 1) (λ y m. h y (contains_there x xs y m)))

positions_same : {X : Type 0} (s t : X → Bool) (xs : List X) → ((x : X) → Contains xs x → s x ≡ t x) → position s xs ≡ position t xs
positions_same s t xs h = position_from-zero s xs ∙ (position_same s t xs 0 h ∙ sym (position_from-zero t xs))

abbrev no_piece : Piece
no_piece = record { column = 0; space = 0 }

below_from : (a b : ℕ) → b ≤ a → (a ≡ b → ⊥) → b < a
below_from a b le n = elim (cases_lt b a) [
  | inl below ↦ below
  | inr above ↦ absurd (n (omega arith))
]

-- a line accesses a column once
one_access : (g : GraphValue) → IsGraph g → (i : ℕ) (a b : Access) → Contains (accesses g i) a → Contains (accesses g i) b → a.column ≡ b.column → a ≡ b
one_access g fits i a b ka kb same = by_order
  where
    got_a : slice_get (accesses g i) ka.0 ≡ Some a
    got_a = slice_get-get_or (accesses g i) ka.0 a ka.1 ∙ ap (λ x. Some x) ka.2

    got_b : slice_get (accesses g i) kb.0 ≡ Some b
    got_b = slice_get-get_or (accesses g i) kb.0 b kb.1 ∙ ap (λ x. Some x) kb.2

    at_one : ka.0 ≡ kb.0 → a ≡ b
    at_one e = same_Some a b (sym got_a ∙ (ap (slice_get (accesses g i)) e ∙ got_b))

    by_order : a ≡ b
    by_order = elim (cases_eq ka.0 kb.0) [
      | inl e ↦ at_one e
      | inr n ↦ elim (cases_lt ka.0 kb.0) [
        | inl below ↦ absurd (columns_differ g i ka.0 kb.0 a b fits below got_a got_b same)
        | inr past ↦ (let above : kb.0 < ka.0 = below_from ka.0 kb.0 past n in absurd (columns_differ g i kb.0 ka.0 b a fits above got_b got_a (sym same)))
      ]
    ]

module _ (g : GraphValue) (us : Unions) (pieces : List Piece) (fits : IsGraph g) (are : ArePieces g us pieces) where
  abbrev h : GraphValue
  h = graph_of_pieces g us pieces

  same_barriers : barriers h ≡ barriers g
  same_barriers = same_items barrier_of (λ n s fs. refl) g.decls us pieces ∙ (ap (λ ys. barriers g ++ ys) (union_items barrier_of (λ n t. refl) 0 us) ∙ append-nil (barriers g))

  space_same : (s : ℕ) → space_at h s ≡ piece_space g us s
  space_same = pieces_keep_spaces g us pieces

  -- the piece that has a cell, if any
  piece_by : (c p : ℕ) (k : ℕ) → position (has_cell g us c p) pieces ≡ Some k → (x : Piece) × (slice_get pieces k ≡ Some x) × (x.column ≡ c) × (has_point (piece_space g us x.space) p ≡ true)
  piece_by c p k e =
      let s = position-Some (has_cell g us c p) pieces k no_piece e in
      let parts = and_parts _ _ s.1 in
      (get_or pieces k no_piece, slice_get-get_or pieces k no_piece s.0, eqb-true _ c parts.0, parts.1)

  past_column : (c : ℕ) → column_at pieces (length pieces + c) ≡ c
  past_column c =
      ap (λ o. option_map_or (λ (x : Piece). x.column) o (length pieces + c - length pieces)) (slice_get_past pieces (length pieces + c) (omega arith))
      ∙ (let e : length pieces + c - length pieces ≡ c = omega arith in e)

  cell_by : (c p : ℕ) (o : Option ℕ) → position (has_cell g us c p) pieces ≡ o → column_at pieces (option_map_or (λ k. k) o (length pieces + c)) ≡ c
  cell_by c p None e = past_column c
  cell_by c p (Some k) e = let x = piece_by c p k e in ap (λ o. option_map_or (λ (y : Piece). y.column) o (k - length pieces)) x.1 ∙ x.2

  cell : (c p : ℕ) → column_at pieces (piece_at g us pieces c p) ≡ c
  cell c p = cell_by c p (position (has_cell g us c p) pieces) refl

  use_by : (i c : ℕ) (o : Option Access) → column_at pieces (option_map_or (λ (a : Access). piece_at g us pieces c (point_at (space_at g a.space) 0)) o (length pieces + c)) ≡ c
  use_by i c None = past_column c
  use_by i c (Some a) = cell c (point_at (space_at g a.space) 0)

  has_by : (c p : ℕ) (o : Option ℕ) → position (has_cell g us c p) pieces ≡ o → option_map_or (λ k. k) o (length pieces + c) < length (columns h) →
      has_point (column_space h (option_map_or (λ k. k) o (length pieces + c))) p ≡ true
  has_by c p None e below =
      let size : length (columns h) ≡ length pieces = ap length (piece_columns g.decls us pieces) ∙ columns_number 0 pieces in
      let less : length pieces + c < length (columns h) = below in
      absurd (omega (arith, size, less))
  has_by c p (Some k) e below =
      let x = piece_by c p k e in
      ap (λ s. has_point s p) (space_of_piece (slice_get (columns h) k) (ap (λ xs. option_map (λ (y : ColumnInfo). y.space) (slice_get xs k)) (piece_columns g.decls us pieces) ∙ (column_got 0 pieces k ∙ ap (option_map (λ (y : Piece). y.space)) x.1)) ∙ space_same x.0.space) ∙ x.3
    where
      space_of_piece : {s : ℕ} (o : Option ColumnInfo) → option_map (λ (y : ColumnInfo). y.space) o ≡ Some s → option_map_or (λ (y : ColumnInfo). space_at h y.space) o [] ≡ space_at h s
      space_of_piece None e = absurd (none-some _ e)
      space_of_piece (Some y) e = ap (space_at h) (same_Some _ _ e)

  -- two points of one access are in one piece
  one_piece : (i : ℕ) (a : Access) (p q : ℕ) → Contains (accesses g i) a → has_point (space_at g a.space) p ≡ true → has_point (space_at g a.space) q ≡ true →
      piece_at g us pieces a.column p ≡ piece_at g us pieces a.column q
  one_piece i a p q k hp hq =
      let z = are.covers i a k in
      let at : (r : ℕ) → has_point (space_at g a.space) r ≡ true → has_cell g us a.column r z.0 ≡ true = λ r hr. and_from _ _ (eq-eqb z.0.column a.column z.2) (z.3 r hr) in
      let both : (r s : ℕ) → has_point (space_at g a.space) r ≡ true → has_point (space_at g a.space) s ≡ true → (x : Piece) → Contains pieces x → has_cell g us a.column r x ≡ true → has_cell g us a.column s x ≡ true =
      λ r s hr hs x m t. subst (λ y. has_cell g us a.column s y ≡ true) (sym (are.apart x z.0 a.column r m z.1 t (at r hr))) (at s hs) in
      ap (λ o. option_map_or (λ (k : ℕ). k) o (length pieces + a.column))
      (positions_same (has_cell g us a.column p) (has_cell g us a.column q) pieces (λ x m. same_test (has_cell g us a.column p x) (has_cell g us a.column q x) (both p q hp hq x m) (both q p hq hp x m)))

  first_point : (s : List (ℕ × ℕ)) (p : ℕ) → has_point s p ≡ true → has_point s (point_at s 0) ≡ true
  first_point s p h =
      let k = (points_are_listed s p).1 h in
      let some : k.0 < length (points s) = k.1 in
      (points_are_listed s (point_at s 0)).0 (Contains-get_or (points s) 0 0 (omega arith))

  within_by : (i : ℕ) (a : Access) (p : ℕ) → Contains (accesses g i) a → has_point (space_at g a.space) p ≡ true → (o : Option Access) → find (λ (b : Access). b.column == a.column) (accesses g i) ≡ o →
      piece_at g us pieces a.column p ≡ option_map_or (λ (b : Access). piece_at g us pieces a.column (point_at (space_at g b.space) 0)) o (length pieces + a.column)
  within_by i a p k hp None e = absurd (true≢false (sym (eq-eqb a.column a.column refl) ∙ find_none (λ (b : Access). b.column == a.column) (accesses g i) e a k))
  within_by i a p k hp (Some b) e =
      let f = find_is (λ (x : Access). x.column == a.column) (accesses g i) b e in
      let same : a ≡ b = one_access g fits i a b k f.0 (sym (eqb-true b.column a.column f.1)) in
      one_piece i a p (point_at (space_at g a.space) 0) k hp (first_point (space_at g a.space) p hp)
      ∙ ap (λ (x : Access). piece_at g us pieces a.column (point_at (space_at g x.space) 0)) same

  cuts : IsCut g (graph_of_pieces g us pieces) (cut_of g us pieces)
  cuts = record {
    lines = refl;
    barriers = same_barriers;
    spaces = λ i a k. space_same a.space ∙ spaces_keep_numbers g us a.space (all_accesses_fit g i a fits k).space;
    within = λ i a p k hp. within_by i a p k hp (find (λ (b : Access). b.column == a.column) (accesses g i)) refl;
    cell = cell;
    use_of = λ i c. use_by i c (find (λ (b : Access). b.column == c) (accesses g i));
    has = λ c p below. has_by c p (position (has_cell g us c p) pieces) refl below;
  }

pub pieces_cut : PiecesCut
pieces_cut g us pieces fits are = cuts g us pieces fits are
