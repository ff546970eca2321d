-- Pieces in another order are pieces of the same graph, and each is found by its column and a point.
use Rattle.std.proofs.Common.{◌≡◌, ℕ, zero, suc, ◌+◌, ◌<◌, ◌≤◌, Bool, true, false, cond, ◌⊎◌, inl, inr, List, [], ◌∷◌, ◌++◌, length, take, get_or, refl, sym, ◌∙◌, ap, subst, arith}
use Rattle.std.specs.Prelude.{◌==◌, ◌&&◌, ◌↔◌, IfSome, IsTrue, Option, Some, None, Contains, slice_get, slice_set, filter, position, sum_by, Vec}
use Rattle.std.specs.Global.{Global}
use Rattle.std.specs.Option.{option_map_or}
use Rattle.std.specs.List.Sorted.{IsPermutation}
use Rattle.std.proofs.lemmas.Bool.{both_ways, and_parts, and_from, cases_eq, eq-eqb, eqb-true, false_from_ne_true}
use Rattle.std.proofs.lemmas.Option.{none-some, same_Some, slice_get-get_or, slice_get_within}
use Rattle.std.proofs.lemmas.List.{length-map}
use Rattle.std.proofs.lemmas.List.Sums.{sum_by-cons}
use Rattle.std.proofs.lemmas.List.Elements.{Contains-push, Contains-push_cases, Contains-append_left, Contains-get_or}
use Rattle.std.proofs.lemmas.List.Quantifiers.{position-Some}
use Rattle.std.proofs.lemmas.List.Sorted.{IsPermutation-sym, Contains-permutation, sum_by-IsPermutation}
use Rattle.basics.proofs.ListFacts.{contains_here, contains_there, contains_none, contains_cases, got_contains, got_in, got_behind, passes_some, set_get, set_get_other}
use Rattle.basics.proofs.Choices.{some_is}
use Rattle.basics.proofs.TestedLists.{position_any}
use Rattle.basics.proofs.ListParts.{take_more, got_cases}
use Rattle.index_spaces.specs.Space.{has_point, point_at, IsSpace}
use Rattle.graph_terms.specs.Fits.{IsGraph}
use Rattle.graph_terms.specs.Graph.{GraphValue, named_spaces, space_at}
use Rattle.column_pieces.specs.Pieces.{Unions, piece_space, has_cell, ArePieces}
use Rattle.column_pieces.specs.declared.pieces.Piece.{Piece}
use Rattle.column_pieces.specs.declared.pieces.TheConstants.{MAX_COLUMN_PIECES}
use Rattle.column_pieces.proofs.Public.{spaces_keep_numbers}
use Rattle.column_parts.proofs.Public.{first_point}
use Rattle.piece_graphs.specs.Uncut.{AreOnce, OneEach, FewEach, AreSpaces}
use Rattle.piece_graphs.specs.Over.{own_spaces, AreOwnPieces}
use Rattle.piece_graphs.specs.Naming.{place_of}
use Rattle.piece_graphs.specs.Numbered.{all_pieces, piece_of, AreKnown, AreOfColumn, ArePlaces, IsPlaced, AreNumbered, AreColumns}
use Rattle.piece_graphs.specs.declared.numbered.ColumnPieces.{ColumnPieces}
use Rattle.piece_graphs.specs.declared.numbered.Place.{Place}
use Rattle.piece_graphs.proofs.Naming.{some_place}
use Rattle.piece_graphs.proofs.Numbers.{cell_column, cell_point, cell_at, once_place, in_list, all_found, all_once, few_each}

-- ANOTHER ORDER
-- how many pass a test
counted : (t : Piece → Bool) (xs : List Piece) → length (filter t xs) ≡ sum_by (λ x. cond (t x) 1 0) xs
counted t [] = refl
counted t (x ∷ xs) = one_more (t x) (counted t xs) ∙ sym (sum_by-cons (λ y. cond (t y) 1 0) x xs)
  where
    one_more : (b : Bool) → length (filter t xs) ≡ sum_by (λ y. cond (t y) 1 0) xs → length (cond b (x ∷ filter t xs) (filter t xs)) ≡ cond b 1 0 + sum_by (λ y. cond (t y) 1 0) xs
    one_more true e = ap suc e ∙ (let one : suc (sum_by (λ y. cond (t y) 1 0) xs) ≡ 1 + sum_by (λ y. cond (t y) 1 0) xs = omega arith in one)
    one_more false e = e ∙ (let none : sum_by (λ y. cond (t y) 1 0) xs ≡ 0 + sum_by (λ y. cond (t y) 1 0) xs = omega arith in none)

as_many : (t : Piece → Bool) (xs ys : List Piece) → IsPermutation xs ys → length (filter t ys) ≡ length (filter t xs)
as_many t xs ys p = counted t ys ∙ (sum_by-IsPermutation (λ x. cond (t x) 1 0) xs ys p ∙ sym (counted t xs))

-- whether two pieces are the same
abbrev is_same : Piece → Piece → Bool
is_same x y = (x.column == y.column) && (x.space == y.space)

abbrev piece : ℕ → ℕ → Piece
piece c s = record { column = c; space = s }

same_piece : (x y : Piece) → x.column ≡ y.column → x.space ≡ y.space → x ≡ y
same_piece x y c s = ap (λ n. piece n x.space) c ∙ ap (piece y.column) s

same_by : (x y : Piece) → is_same x y ≡ true → x ≡ y
same_by x y h = let parts = and_parts (x.column == y.column) (x.space == y.space) h in same_piece x y (eqb-true x.column y.column parts.0) (eqb-true x.space y.space parts.1)

same_here : (x : Piece) → is_same x x ≡ true
same_here x = and_from (x.column == x.column) (x.space == x.space) (eq-eqb x.column x.column refl) (eq-eqb x.space x.space refl)

-- one that passes is counted
some_passed : (t : Piece → Bool) (xs : List Piece) (x : Piece) → Contains xs x → t x ≡ true → 0 < length (filter t xs)
some_passed t [] x k h = absurd (contains_none x k)
some_passed t (y ∷ ys) x k h = elim (contains_cases y ys x k) [
  | inl same ↦ subst (λ b. 0 < length (cond b (y ∷ filter t ys) (filter t ys))) (sym (ap t same ∙ h)) (let e : 0 < suc (length (filter t ys)) = omega arith in e)
  | inr later ↦ by (t y) (some_passed t ys x later h)
]
  where
    by : (b : Bool) → 0 < length (filter t ys) → 0 < length (cond b (y ∷ filter t ys) (filter t ys))
    by true e = omega (arith, e)
    by false e = e

-- pieces that stand there once are counted once
one_counted : (x : Piece) (xs : List Piece) → AreOnce xs → length (filter (is_same x) xs) ≤ 1
one_counted x [] once = omega arith
one_counted x (y ∷ ys) once = by (is_same x y) refl (one_counted x ys once.1)
  where
    none : (t : Piece → Bool) (zs : List Piece) → ((z : Piece) → Contains zs z → t z ≡ false) → length (filter t zs) ≡ 0
    none t [] h = refl
    none t (z ∷ zs) h = ap (λ b. length (cond b (z ∷ filter t zs) (filter t zs))) (h z (contains_here z zs)) ∙ none t zs (λ w k. h w (contains_there z zs w k))

    by : (b : Bool) → is_same x y ≡ b → length (filter (is_same x) ys) ≤ 1 → length (cond b (y ∷ filter (is_same x) ys) (filter (is_same x) ys)) ≤ 1
    by true e few =
        let rest : length (filter (is_same x) ys) ≡ 0 = none (is_same x) ys (λ z k. false_from_ne_true (is_same x z) (λ f. once.0 (subst (Contains ys) (sym (same_by x z f) ∙ same_by x y e) k))) in
        omega (arith, rest)
    by false e few = few

once_counted : (xs : List Piece) → ((x : Piece) → length (filter (is_same x) xs) ≤ 1) → AreOnce xs
once_counted [] few = tt
once_counted (x ∷ xs) few = (
  λ k. (
      let more : 0 < length (filter (is_same x) xs) = some_passed (is_same x) xs x k (same_here x) in
      let one : length (x ∷ filter (is_same x) xs) ≤ 1 = subst (λ b. length (cond b (x ∷ filter (is_same x) xs) (filter (is_same x) xs)) ≤ 1) (same_here x) (few x) in
      omega (arith, more, one)),
  once_counted xs (λ y. fewer y (is_same y x) (few y)),
)
  where
    fewer : (y : Piece) (b : Bool) → length (cond b (x ∷ filter (is_same y) xs) (filter (is_same y) xs)) ≤ 1 → length (filter (is_same y) xs) ≤ 1
    fewer y true h = omega (arith, h)
    fewer y false h = h

module _ (xs ys : List Piece) (p : IsPermutation xs ys) where
  to : (x : Piece) → Contains xs x → Contains ys x
  to x k = Contains-permutation xs ys x p k

  from : (x : Piece) → Contains ys x → Contains xs x
  from x k = Contains-permutation ys xs x (IsPermutation-sym xs ys p) k

  pub still_once : AreOnce xs → AreOnce ys
  still_once once = once_counted ys (λ x. subst (λ n. n ≤ 1) (sym (as_many (is_same x) xs ys p)) (one_counted x xs once))

  pub still_few : FewEach xs → FewEach ys
  still_few few c = subst (λ n. n ≤ MAX_COLUMN_PIECES) (sym (as_many (λ (x : Piece). x.column == c) xs ys p)) (few c)

  pub still_two : (OneEach xs → ⊥) → OneEach ys → ⊥
  still_two two one = two (λ x y kx ky. one x y (to x kx) (to y ky))

  pub still_pieces : (g : GraphValue) (us : Unions) → ArePieces g us xs → ArePieces g us ys
  still_pieces g us are = record {
    covers = λ i a k. let x = are.covers i a k in (x.0, to x.0 x.1, x.2, x.3);
    apart = λ x y c q kx ky. are.apart x y c q (from x kx) (from y ky);
    over = λ x k. are.over x (from x k);
    used = λ k below. let x = are.used k below in (x.0, to x.0 x.1, x.2);
  }

-- NUMBERS
-- each piece is of a column that has a list
pub known_lists : (g : GraphValue) (us : Unions) (lists : List (Vec Piece Global)) → AreOwnPieces g us lists → AreKnown lists
known_lists g us lists are x k =
    let l = in_list lists x k in
    let column : x.column ≡ l.0 = are.own l.0 l.1 x l.2 l.3 in
    let below : l.0 < length lists = slice_get_within lists l.0 l.1 l.2 in
    omega (arith, column, below)

pub known_in_order : (lists : List (Vec Piece Global)) (xs ys : List Piece) → AreKnown lists → xs ≡ all_pieces lists → IsPermutation xs ys → (x : Piece) → Contains ys x → x.column < length lists
known_in_order lists xs ys known is p x k = known x (subst (λ zs. Contains zs x) is (Contains-permutation ys xs x (IsPermutation-sym xs ys p) k))

-- numbered pieces of a graph
pub numbered_columns : (g : GraphValue) (us : Unions) (lists : List (Vec Piece Global)) (x : ColumnPieces) → IsGraph g → AreOwnPieces g us lists → x.unions.items ≡ us → AreNumbered lists x → AreColumns g x
numbered_columns g us lists x fits own same are = record {
  pieces = still_pieces (all_pieces lists) x.pieces.items are.same g x.unions.items (subst (λ vs. ArePieces g vs (all_pieces lists)) (sym same) (all_found g us lists fits own));
  spaces = subst (λ vs. AreSpaces vs) (sym same) own.are_spaces;
  once = still_once (all_pieces lists) x.pieces.items are.same (all_once g us lists fits own);
  few_each = still_few (all_pieces lists) x.pieces.items are.same (few_each g us lists fits own);
  few = are.few;
  order = are.order;
  places = subst (λ n. ArePlaces n x.pieces.items x.places.items) (sym (length-map lists (λ (v : Vec Piece Global). own_spaces g us v.items)) ∙ own.found.lists.count) are.places;
}

-- PLACES
abbrev Places : Type 0
Places = List (Vec Place Global)

pub none_of_column : (c : ℕ) → AreOfColumn [] c []
none_of_column c p = (λ k. absurd (contains_none p k), λ e. absurd (none-some (piece_of c p) e))

-- one more list without places
pub list_put : (n : ℕ) (places new : Places) (v : Vec Place Global) → ArePlaces n [] places → v.items ≡ [] → new ≡ places ++ v ∷ [] → ArePlaces (n + 1) [] new
list_put n places new v are none put = record {
  count = ap length put ∙ (pushed places v ∙ ap (λ m. m + 1) are.count);
  each = λ c w at. elim (got_cases places v c w (sym (ap (λ ws. slice_get ws c) put) ∙ at)) [
    | inl early ↦ are.each c w early.1
    | inr last ↦ subst (λ (u : Vec Place Global). AreOfColumn [] c u.items) last.1 (subst (AreOfColumn [] c) (sym none) (none_of_column c))
  ];
}
  where
    pushed : (ws : Places) (u : Vec Place Global) → length (ws ++ u ∷ []) ≡ length ws + 1
    pushed [] u = refl
    pushed (w ∷ ws) u = ap suc (pushed ws u) ∙ (let e : suc (length ws + 1) ≡ suc (length ws) + 1 = omega arith in e)

abbrev place : ℕ → ℕ → Place
place s n = record { space = s; number = n }

same_place : (p q : Place) → p.space ≡ q.space → p.number ≡ q.number → p ≡ q
same_place p q s n = ap (λ m. place m p.number) s ∙ ap (place q.space) n

abbrev new_place : Piece → ℕ → Place
new_place x k = record { space = x.space; number = k }

-- a place is put behind those of its column
pub place_put : (old : Places) (v w : Vec Place Global) (x : Piece) (k : ℕ) → slice_get old x.column ≡ Some v → w.items ≡ v.items ++ new_place x k ∷ [] → IsPlaced old (slice_set old x.column w) x k
place_put old v w x k at put = record {
  count = set_length old x.column w;
  each = λ c u got. by_column c u got (cases_eq c x.column);
}
  where
    set_length : (ws : Places) (i : ℕ) (u : Vec Place Global) → length (slice_set ws i u) ≡ length ws
    set_length [] i u = refl
    set_length (z ∷ zs) zero u = refl
    set_length (z ∷ zs) (suc i) u = ap suc (set_length zs i u)

    placed : (c : ℕ) → c ≡ x.column → (p : Place) → new_place x k ≡ p → (x ≡ piece_of c p) × (p.number ≡ k)
    placed c here p same = (same_piece x (piece_of c p) (sym here) (ap (λ (q : Place). q.space) same), sym (ap (λ (q : Place). q.number) same))

    replaced : (c : ℕ) (p : Place) → x ≡ piece_of c p → p.number ≡ k → new_place x k ≡ p
    replaced c p same number = same_place (new_place x k) p (ap (λ (y : Piece). y.space) same) (sym number)

    by_column : (c : ℕ) (u : Vec Place Global) → slice_get (slice_set old x.column w) c ≡ Some u → (c ≡ x.column) ⊎ ((c ≡ x.column) → ⊥) →
        (t : Vec Place Global) × (slice_get old c ≡ Some t) × ((p : Place) → Contains u.items p ↔ (Contains t.items p ⊎ ((x ≡ piece_of c p) × (p.number ≡ k))))
    by_column c u got (inl here) = (
      v,
      ap (slice_get old) here ∙ at,
      λ p. (
        λ m. elim (Contains-push_cases v.items (new_place x k) p (subst (λ ps. Contains ps p) items m)) [
          | inl early ↦ inl early
          | inr last ↦ inr (placed c here p last)
        ],
        λ e. subst (λ ps. Contains ps p) (sym items) (elim e [
          | inl early ↦ Contains-append_left v.items (new_place x k ∷ []) p early
          | inr last ↦ subst (Contains (v.items ++ new_place x k ∷ [])) (replaced c p last.0 last.1) (Contains-push v.items (new_place x k))
        ]),
      ),
    )
      where
        items : u.items ≡ v.items ++ new_place x k ∷ []
        items = ap (λ (t : Vec Place Global). t.items) (same_Some u w (sym got ∙ (ap (slice_get (slice_set old x.column w)) here ∙ set_get old x.column w (slice_get_within old x.column v at)))) ∙ put
    by_column c u got (inr other) = (
      u,
      sym (set_get_other old x.column c w other) ∙ got,
      λ p. (
        λ m. inl m,
        λ e. elim e [
          | inl m ↦ m
          | inr last ↦ absurd (other (sym (ap (λ (y : Piece). y.column) last.0)))
        ],
      ),
    )

pub next_placed : (n : ℕ) (xs : List Piece) (x : Piece) (k : ℕ) (old new : Places) → k ≡ length xs → ArePlaces n xs old → IsPlaced old new x k → ArePlaces n (xs ++ x ∷ []) new
next_placed n xs x k old new is are put = record {
  count = put.count ∙ are.count;
  each = λ c w at. let v = put.each c w at in λ p. (
    λ m. elim ((v.2 p).0 m) [
      | inl early ↦ got_in xs (x ∷ []) p.number (piece_of c p) ((are.each c v.0 v.1 p).0 early)
      | inr last ↦ ap (slice_get (xs ++ x ∷ [])) (last.1 ∙ is) ∙ (got_behind xs x [] ∙ ap (λ y. Some y) last.0)
    ],
    λ e. (v.2 p).1 (elim (got_cases xs x p.number (piece_of c p) e) [
      | inl early ↦ inl ((are.each c v.0 v.1 p).1 early.1)
      | inr last ↦ inr (last.1, last.0 ∙ sym is)
    ]),
  );
}

-- THE PIECE OF A POINT
module _ (g : GraphValue) (x : ColumnPieces) (are : AreColumns g x) (c q : ℕ) (v : Vec Place Global) (at : slice_get x.places.items c ≡ Some v) where
  abbrev us : Unions
  us = x.unions.items

  abbrev xs : List Piece
  xs = x.pieces.items

  -- a place whose space has the point tells the number of the piece
  pub placed_at : (p : Place) → Contains v.items p → has_point (piece_space g x.unions.items p.space) q ≡ true → p.number ≡ place_of g x.unions.items x.pieces.items c q
  placed_at p k h =
      let y : Piece = piece_of c p in
      let got : slice_get xs p.number ≡ Some y = (are.places.each c v at p).0 k in
      let here : Contains xs y = got_contains xs p.number y got in
      let hy : has_cell g us c q y ≡ true = cell_at g us y c q refl h in
      let j = some_place (has_cell g us c q) xs y here hy in
      let f = position-Some (has_cell g us c q) xs j.0 y j.1 in
      let z : Piece = get_or xs j.0 y in
      let same : z ≡ y = are.pieces.apart z y c q (Contains-get_or xs j.0 y f.0) here f.1 hy in
      let place : p.number ≡ j.0 = once_place xs y p.number j.0 are.once got (slice_get-get_or xs j.0 y f.0 ∙ ap (λ w. Some w) same) in
      place ∙ sym (ap (λ o. option_map_or (λ (i : ℕ). i) o c) j.1)

  -- and where none has it, no piece does
  pub placed_nowhere : ((p : Place) → Contains v.items p → has_point (piece_space g x.unions.items p.space) q ≡ false) → c ≡ place_of g x.unions.items x.pieces.items c q
  placed_nowhere none = by (position (has_cell g us c q) xs) refl
    where
      by : (o : Option ℕ) → position (has_cell g us c q) xs ≡ o → c ≡ option_map_or (λ (i : ℕ). i) o c
      by None e = refl
      by (Some j) e =
          let f = position-Some (has_cell g us c q) xs j (record { column = c; space = 0 }) e in
          let z : Piece = get_or xs j (record { column = c; space = 0 }) in
          let p : Place = record { space = z.space; number = j } in
          let column : z.column ≡ c = cell_column g us c q z f.1 in
          let got : slice_get xs j ≡ Some (piece_of c p) = slice_get-get_or xs j (record { column = c; space = 0 }) f.0 ∙ ap (λ w. Some w) (same_piece z (piece_of c p) column refl) in
          absurd (both_ways (has_point (piece_space g us z.space) q) (none p ((are.places.each c v at p).1 got)) (cell_point g us c q z f.1))

  -- numbers are low
  pub number_low : (p : Place) → Contains v.items p → p.number < length x.pieces.items
  number_low p k = slice_get_within xs p.number (piece_of c p) ((are.places.each c v at p).0 k)

-- THE PLACE OF A SPACE
-- a place over a space has its first point
pub place_over : (g : GraphValue) (us : Unions) (s : ℕ) (ps : List Place) (k : ℕ) → s < length (named_spaces g) → IsSpace (space_at g s) → position (λ (p : Place). p.space == s) ps ≡ Some k →
    (p : Place) × (slice_get ps k ≡ Some p) × (has_point (piece_space g us p.space) (point_at (space_at g s) 0) ≡ true)
place_over g us s ps k known space at =
    let no_place : Place = record { space = 0; number = 0 } in
    let f = position-Some (λ (p : Place). p.space == s) ps k no_place at in
    let p = get_or ps k no_place in
    let over : p.space ≡ s = eqb-true p.space s f.1 in (
      p,
      slice_get-get_or ps k no_place f.0,
      subst (λ r. has_point (piece_space g us r) (point_at (space_at g s) 0) ≡ true) (sym over)
          (subst (λ (t : List (ℕ × ℕ)). has_point t (point_at (space_at g s) 0) ≡ true) (sym (spaces_keep_numbers g us s known)) (first_point (space_at g s) space)),
    )

-- a place of which the space has a point
pub place_with : (t : Place → Bool) (ps : List Place) (k : ℕ) → position t ps ≡ Some k → (p : Place) × (slice_get ps k ≡ Some p) × (t p ≡ true)
place_with t ps k at =
    let no_place : Place = record { space = 0; number = 0 } in
    let f = position-Some t ps k no_place at in
    (get_or ps k no_place, slice_get-get_or ps k no_place f.0, f.1)

pub place_found : (t : Place → Bool) (ps : List Place) (o : Option ℕ) → o ≡ position t ps → IfSome o (λ k. (p : Place) × (slice_get ps k ≡ Some p) × IsTrue (t p))
place_found t ps None e = tt
place_found t ps (Some k) e = place_with t ps k (sym e)

pub place_without : (t : Place → Bool) (ps : List Place) → position t ps ≡ None → (p : Place) → Contains ps p → t p ≡ false
place_without t ps none p k = false_from_ne_true (t p) (λ h. let j = some_passing k h in none-some j.0 (sym none ∙ j.1))
  where
    some_passing : Contains ps p → t p ≡ true → (j : ℕ) × (position t ps ≡ Some j)
    some_passing k h = some_is (position t ps) (sym (position_any t ps) ∙ passes_some t ps p k h)

-- one more piece of a list is put
pub piece_placed : (n : ℕ) (xs : List Piece) (x : Piece) (k : ℕ) (old new : Places) → slice_get xs k ≡ Some x → ArePlaces n (take k xs) old → IsPlaced old new x k → ArePlaces n (take (k + 1) xs) new
piece_placed n xs x k old new at are put =
    subst (λ ys. ArePlaces n ys new) (sym (take_more xs k x at)) (next_placed n (take k xs) x k old new (sym (taken xs k (slice_get_within xs k x at))) are put)
  where
    taken : (ys : List Piece) (m : ℕ) → m < length ys → length (take m ys) ≡ m
    taken [] m h = absurd (omega (arith, h))
    taken (y ∷ ys) zero h = refl
    taken (y ∷ ys) (suc m) h = ap suc (taken ys m (omega (arith, h)))
