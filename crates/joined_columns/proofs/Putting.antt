-- Columns that have the cells of some pieces.
use Rattle.std.proofs.Common.{◌≡◌, ◌≢◌, ℕ, zero, suc, ◌+◌, ◌<◌, ◌==◌, Bool, true, false, cond, inl, inr, List, [], ◌∷◌, ◌++◌, length, map, replicate, drop, get_or, refl, sym, ◌∙◌, ap, subst, arith}
use Rattle.std.specs.Prelude.{Option, Some, None, slice_get, slice_set, position}
use Rattle.std.specs.Option.{option_map_or}
use Rattle.std.specs.List.{position_from}
use Rattle.std.proofs.lemmas.Bool.{cases_eq, cases_Bool, cond-true, cond-false, and_from, and_left, and_right, eq-eqb, ne_eqb}
use Rattle.std.proofs.lemmas.Option.{same_Some, slice_get-get_or, slice_get_past, slice_get_within, get_or_from_slice_get}
use Rattle.std.proofs.lemmas.List.{length-map, length_push, length-set, append_assoc, drop_more, get_or-map, get_or_default, same_lists}
use Rattle.std.proofs.lemmas.List.FromFn.{get_or-map-range_with_len, length-map-range_with_len, map-range_with_len_more}
use Rattle.std.proofs.lemmas.Iterator.Adapters.{position_from-zero}
use Rattle.basics.proofs.ListFacts.{numbers_below, got_behind, set_get, set_get_other}
use Rattle.index_spaces.specs.Space.{has_point, points, space_size, rank, point_at, IsSpace}
use Rattle.index_spaces.specs.Column.{ColumnValue, cell_of}
use Rattle.index_spaces.specs.Run.{WritesPoints}
use Rattle.index_spaces.specs.Laws.{RankOfPoint}
use Rattle.graph_terms.specs.Fits.{IsGraph}
use Rattle.graph_terms.specs.Graph.{GraphValue, columns, column_space, space_at}
use Rattle.graph_terms.specs.declared.decl.ColumnInfo.{ColumnInfo}
use Rattle.graph_terms.proofs.Public.{space_is, column_space_known}
use Rattle.graph_meaning.specs.Effect.{zero_cells}
use Rattle.graph_meaning.specs.Evaluation.{column_of}
use Rattle.column_pieces.specs.Joined.{joined_cell, joined_column}
use Rattle.column_pieces.specs.Pieces.{Unions, piece_space, has_cell, cut_of}
use Rattle.column_pieces.specs.declared.pieces.Piece.{Piece}

-- the cell at a point that the first piece with it has, and 0 where none has it
abbrev pub cell_in : GraphValue → Unions → List Piece → List ColumnValue → ℕ → ℕ → ℕ
cell_in g us [] ys c p = 0
cell_in g us (x ∷ xs) [] c p = 0
cell_in g us (x ∷ xs) (y ∷ ys) c p = cond (has_cell g us c p x) (cell_of y p) (cell_in g us xs ys c p)

-- a column of a graph with the cells of these pieces
pub record HasCellsOf (g : GraphValue) (us : Unions) (xs : List Piece) (ys : List ColumnValue) (c : ℕ) (x : ColumnValue) : Type 0 where
  pub space : x.space ≡ column_space g c
  pub full : length x.cells ≡ space_size x.space
  pub cells : (p : ℕ) → has_point x.space p ≡ true → cell_of x p ≡ cell_in g us xs ys c p

-- all columns of a graph with these
pub record HaveCellsOf (g : GraphValue) (us : Unions) (xs : List Piece) (ys : List ColumnValue) (all : List ColumnValue) : Type 0 where
  pub number : length all ≡ length (columns g)
  pub each : (c : ℕ) (x : ColumnValue) → slice_get all c ≡ Some x → HasCellsOf g us xs ys c x

abbrev none : ColumnValue
none = record { space = []; cells = [] }

-- THE FIRST PIECE
abbrev read : ℕ → Option ColumnValue → ℕ
read p o = option_map_or (λ (y : ColumnValue). cell_of y p) o 0

read_from : (g : GraphValue) (us : Unions) (c p : ℕ) (zs : List ColumnValue) (xs : List Piece) (ys : List ColumnValue) → length ys ≡ length xs →
    cell_in g us xs ys c p ≡ option_map_or (λ k. read p (slice_get (zs ++ ys) k)) (position_from (has_cell g us c p) (length zs) xs) 0
read_from g us c p zs [] ys e = refl
read_from g us c p zs (x ∷ xs) [] e = absurd (omega arith)
read_from g us c p zs (x ∷ xs) (y ∷ ys) e =
    let long : length (zs ++ y ∷ []) ≡ length zs + 1 = length_push zs y in
    by_test (has_cell g us c p x)
    (read_from g us c p (zs ++ y ∷ []) xs ys (omega arith)
    ∙ (ap (λ n. option_map_or (λ k. read p (slice_get ((zs ++ y ∷ []) ++ ys) k)) (position_from (has_cell g us c p) n xs) 0) long
    ∙ ap (λ vs. option_map_or (λ k. read p (slice_get vs k)) (position_from (has_cell g us c p) (length zs + 1) xs) 0) (append_assoc zs (y ∷ []) ys)))
  where
    by_test : (b : Bool) → cell_in g us xs ys c p ≡ option_map_or (λ k. read p (slice_get (zs ++ y ∷ ys) k)) (position_from (has_cell g us c p) (length zs + 1) xs) 0 →
        cond b (cell_of y p) (cell_in g us xs ys c p) ≡ option_map_or (λ k. read p (slice_get (zs ++ y ∷ ys) k)) (cond b (Some (length zs)) (position_from (has_cell g us c p) (length zs + 1) xs)) 0
    by_test true rest = sym (ap (read p) (got_behind zs y ys))
    by_test false rest = rest

-- it is the cell that is put together
is_joined : (g : GraphValue) (us : Unions) (c p : ℕ) (xs : List Piece) (ys : List ColumnValue) → length ys ≡ length xs → cell_in g us xs ys c p ≡ joined_cell ys (cut_of g us xs) c p
is_joined g us c p xs ys e =
    read_from g us c p [] xs ys e
    ∙ (ap (λ o. option_map_or (λ k. read p (slice_get ys k)) o 0) (sym (position_from-zero (has_cell g us c p) xs))
    ∙ by_place (position (has_cell g us c p) xs))
  where
    by_place : (o : Option ℕ) → option_map_or (λ k. read p (slice_get ys k)) o 0 ≡ read p (slice_get ys (option_map_or (λ k. k) o (length xs + c)))
    by_place (Some k) = refl
    by_place None = sym (ap (read p) (slice_get_past ys (length xs + c) (omega arith)))

-- COLUMNS
column_got : (g : GraphValue) (c : ℕ) (x : ColumnValue) (all : List ColumnValue) (f : ℕ → ColumnValue) (n : ℕ) → all ≡ map f (numbers_below n) → slice_get all c ≡ Some x → x ≡ f c
column_got g c x all f n is at =
    let long : length all ≡ n = ap length is ∙ length-map-range_with_len f 0 n in
    let below : c < length all = slice_get_within all c x at in
    sym (get_or_from_slice_get all c x none at)
    ∙ (ap (λ vs. get_or vs c none) is
    ∙ get_or-map-range_with_len f 0 n c c none (omega arith) (let e : 0 + c ≡ c = omega arith in e))

zero_read : (c : ℕ) (ps : List ℕ) (r : ℕ) → get_or (map (zero_cells c) ps) r 0 ≡ 0
zero_read c [] r = refl
zero_read c (p ∷ ps) zero = refl
zero_read c (p ∷ ps) (suc r) = zero_read c ps r

zeros : (c : ℕ) (ps : List ℕ) → replicate {A = ℕ} (length ps) 0 ≡ map (zero_cells c) ps
zeros c [] = refl
zeros c (p ∷ ps) = ap (λ xs. 0 ∷ xs) (zeros c ps)

-- a zeroed column of a graph
pub zeroed_column : (g : GraphValue) (c : ℕ) (x : ColumnValue) (s : List (ℕ × ℕ)) → s ≡ column_space g c → x.space ≡ s → x.cells ≡ replicate (space_size s) 0 → x ≡ column_of g zero_cells c
zeroed_column g c x s e f h =
    let over : x.space ≡ column_space g c = f ∙ e in
    let cells : x.cells ≡ map (zero_cells c) (points (column_space g c)) = h ∙ (zeros c (points s) ∙ ap (λ t. map (zero_cells c) (points t)) e) in
    λ i. record { space = over i; cells = cells i }

-- one more of them
pub zeroed_more : (g : GraphValue) (old new : List ColumnValue) (x : ColumnValue) (n : ℕ) → old ≡ map (column_of g zero_cells) (numbers_below n) → new ≡ old ++ x ∷ [] → x ≡ column_of g zero_cells n →
    new ≡ map (column_of g zero_cells) (numbers_below (n + 1))
zeroed_more g old new x n e f h =
    f
    ∙ (ap (λ xs. xs ++ x ∷ []) e
    ∙ (ap (λ y. map (column_of g zero_cells) (numbers_below n) ++ y ∷ []) h
    ∙ sym (map-range_with_len_more (column_of g zero_cells) 0 n n (let z : 0 + n ≡ n = omega arith in z))))

-- at first no piece is put
pub none_put : (g : GraphValue) (us : Unions) (ys all : List ColumnValue) → all ≡ map (column_of g zero_cells) (numbers_below (length (columns g))) → HaveCellsOf g us [] ys all
none_put g us ys all is = record {
  number = ap length is ∙ length-map-range_with_len (column_of g zero_cells) 0 (length (columns g));
  each = λ c x at. subst (HasCellsOf g us [] ys c) (sym (column_got g c x all (column_of g zero_cells) (length (columns g)) is at)) (record {
    space = refl;
    full = length-map (points (column_space g c)) (zero_cells c);
    cells = λ p h. zero_read c (points (column_space g c)) (rank (column_space g c) p);
  });
}

-- one piece more, in its column
put_here : (g : GraphValue) (us : Unions) (xs : List Piece) (ys : List ColumnValue) (x : Piece) (y old new : ColumnValue) → y.space ≡ piece_space g us x.space → HasCellsOf g us xs ys x.column old →
    WritesPoints old new y.space (cell_of y) → length new.cells ≡ space_size new.space → HasCellsOf g us (x ∷ xs) (y ∷ ys) x.column new
put_here g us xs ys x y old new over has write full = record {
  space = write.space ∙ has.space;
  full = full;
  cells = λ p h. by_point p (subst (λ s. has_point s p ≡ true) write.space h);
}
  where
    by_point : (p : ℕ) → has_point old.space p ≡ true → cell_of new p ≡ cell_in g us (x ∷ xs) (y ∷ ys) x.column p
    by_point p h = elim (cases_Bool (has_point y.space p)) [
      | inl in_part ↦ (
          let test : has_cell g us x.column p x ≡ true = and_from _ _ (eq-eqb x.column x.column refl) (subst (λ s. has_point s p ≡ true) over in_part) in
          write.inside p in_part ∙ sym (cond-true (has_cell g us x.column p x) (cell_of y p) (cell_in g us xs ys x.column p) test))
      | inr out ↦ (
          let test : has_cell g us x.column p x ≡ false = and_right (x.column == x.column) _ (subst (λ s. has_point s p ≡ false) over out) in
          write.outside p h out ∙ (has.cells p h ∙ sym (cond-false (has_cell g us x.column p x) (cell_of y p) (cell_in g us xs ys x.column p) test)))
    ]

-- and elsewhere
put_elsewhere : (g : GraphValue) (us : Unions) (xs : List Piece) (ys : List ColumnValue) (x : Piece) (y : ColumnValue) (c : ℕ) (z : ColumnValue) → c ≢ x.column → HasCellsOf g us xs ys c z → HasCellsOf g us (x ∷ xs) (y ∷ ys) c z
put_elsewhere g us xs ys x y c z other has = record {
  space = has.space;
  full = has.full;
  cells = λ p h. (
      let test : has_cell g us c p x ≡ false = and_left (x.column == c) _ (ne_eqb x.column c (λ e. other (sym e))) in
      has.cells p h ∙ sym (cond-false (has_cell g us c p x) (cell_of y p) (cell_in g us xs ys c p) test));
}

one_put : (g : GraphValue) (us : Unions) (xs : List Piece) (ys all : List ColumnValue) (x : Piece) (y old new : ColumnValue) → y.space ≡ piece_space g us x.space → slice_get all x.column ≡ Some old → HaveCellsOf g us xs ys all →
    WritesPoints old new y.space (cell_of y) → length new.cells ≡ space_size new.space → HaveCellsOf g us (x ∷ xs) (y ∷ ys) (slice_set all x.column new)
one_put g us xs ys all x y old new over here have write full = record {
  number = length-set all x.column new ∙ have.number;
  each = λ c z at. elim (cases_eq c x.column) [
    | inl e ↦ (
        let same : new ≡ z = same_Some new z (sym (set_get all x.column new (slice_get_within all x.column old here)) ∙ (ap (slice_get (slice_set all x.column new)) (sym e) ∙ at)) in
        subst (HasCellsOf g us (x ∷ xs) (y ∷ ys) c) same
        (subst (λ k. HasCellsOf g us (x ∷ xs) (y ∷ ys) k new) (sym e) (put_here g us xs ys x y old new over (have.each x.column old here) write full)))
    | inr n ↦ put_elsewhere g us xs ys x y c z n (have.each c z (sym (set_get_other all x.column c new n) ∙ at))
  ];
}

-- the piece of number n is put where those behind it are
pub put_next : (g : GraphValue) (us : Unions) (pieces : List Piece) (parts all : List ColumnValue) (n left : ℕ) (d : Piece) (y old new : ColumnValue) → n + 1 ≡ left → n < length pieces → slice_get parts n ≡ Some y →
    y.space ≡ piece_space g us (get_or pieces n d).space → slice_get all (get_or pieces n d).column ≡ Some old → HaveCellsOf g us (drop left pieces) (drop left parts) all →
    WritesPoints old new y.space (cell_of y) → length new.cells ≡ space_size new.space → HaveCellsOf g us (drop n pieces) (drop n parts) (slice_set all (get_or pieces n d).column new)
put_next g us pieces parts all n left d y old new next below at over here have write full =
    let x = get_or pieces n d in
    let all' = slice_set all x.column new in
    let xs : drop n pieces ≡ x ∷ drop left pieces = drop_more pieces n d below ∙ ap (λ k. x ∷ drop k pieces) next in
    let ys : drop n parts ≡ y ∷ drop left parts =
    drop_more parts n y (slice_get_within parts n y at) ∙ (ap (λ v. v ∷ drop (n + 1) parts) (get_or_from_slice_get parts n y y at) ∙ ap (λ k. y ∷ drop k parts) next) in
    subst (λ vs. HaveCellsOf g us vs (drop n parts) all') (sym xs)
    (subst (λ vs. HaveCellsOf g us (x ∷ drop left pieces) vs all') (sym ys) (one_put g us (drop left pieces) (drop left parts) all x y old new over here have write full))

-- the space of a column is a space
pub space_of_column : (g : GraphValue) → IsGraph g → (c : ℕ) → c < length (columns g) → IsSpace (column_space g c)
space_of_column g fits c below =
    let no_column : ColumnInfo = record { inst = []; field = []; space = 0 } in
    let x = get_or (columns g) c no_column in
    let at : slice_get (columns g) c ≡ Some x = slice_get-get_or (columns g) c no_column below in
    let same : space_at g x.space ≡ column_space g c = sym (ap (λ (o : Option ColumnInfo). option_map_or (λ (y : ColumnInfo). space_at g y.space) o []) at) in
    subst IsSpace same (space_is g fits x.space (column_space_known g fits c x at))

-- a column of which each cell is known by its point
by_points : RankOfPoint → (x : ColumnValue) (f : ℕ → ℕ) → IsSpace x.space → length x.cells ≡ space_size x.space → ((p : ℕ) → has_point x.space p ≡ true → cell_of x p ≡ f p) → x.cells ≡ map f (points x.space)
by_points of_point x f a full h =
    same_lists _ _ (full ∙ sym (length-map (points x.space) f)) (λ k d l.
    let within : k < space_size x.space = omega (arith, full) in
    let at = of_point x.space k a within in
    get_or_default x.cells k d 0 l
    ∙ (ap (λ r. get_or x.cells r 0) (sym at.1)
    ∙ (h (point_at x.space k) at.0
    ∙ sym (get_or-map f (points x.space) k 0 d within))))

column_joined : RankOfPoint → (g : GraphValue) (us : Unions) (xs : List Piece) (ys : List ColumnValue) (c : ℕ) (x : ColumnValue) → length ys ≡ length xs → IsSpace (column_space g c) → HasCellsOf g us xs ys c x →
    x ≡ joined_column g (cut_of g us xs) ys c
column_joined of_point g us xs ys c x e space has =
    let cells : x.cells ≡ map (joined_cell ys (cut_of g us xs) c) (points x.space) =
    by_points of_point x (joined_cell ys (cut_of g us xs) c) (subst IsSpace (sym has.space) space) has.full (λ p h. has.cells p h ∙ is_joined g us c p xs ys e) in
    let same : x.cells ≡ map (joined_cell ys (cut_of g us xs) c) (points (column_space g c)) = cells ∙ ap (λ s. map (joined_cell ys (cut_of g us xs) c) (points s)) has.space in
    let over = has.space in
    λ i. record { space = over i; cells = same i }

-- in the end all are put
pub all_put : RankOfPoint → (g : GraphValue) → IsGraph g → (us : Unions) (xs : List Piece) (ys all : List ColumnValue) → length ys ≡ length xs → HaveCellsOf g us xs ys all →
    all ≡ map (joined_column g (cut_of g us xs) ys) (numbers_below (length (columns g)))
all_put of_point g fits us xs ys all e have =
    let f = joined_column g (cut_of g us xs) ys in
    let n = length (columns g) in
    same_lists all (map f (numbers_below n)) (have.number ∙ sym (length-map-range_with_len f 0 n)) (λ k d below.
    let within : k < n = omega (arith, have.number) in
    column_joined of_point g us xs ys k (get_or all k d) e (space_of_column g fits k within) (have.each k (get_or all k d) (slice_get-get_or all k d below))
    ∙ sym (get_or-map-range_with_len f 0 n k k d within (let z : 0 + k ≡ k = omega arith in z)))
