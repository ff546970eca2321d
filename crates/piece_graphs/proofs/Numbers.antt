-- The pieces of all columns: they are those of the graph, and each has its number.
use Rattle.std.proofs.Common.{◌≡◌, ◌≢◌, ℕ, zero, suc, ◌+◌, ◌<◌, ◌≤◌, Bool, true, false, cond, ◌⊎◌, inl, inr, List, [], ◌∷◌, ◌++◌, length, map, take, get_or, append_assoc, append-nil, length-append, refl, sym, ◌∙◌, ap, subst, arith}
use Rattle.std.specs.Prelude.{◌==◌, Option, Some, None, Contains, slice_get, filter, nat_lt, option_map, Vec}
use Rattle.std.specs.Global.{Global}
use Rattle.std.specs.Option.{option_map_or}
use Rattle.std.proofs.lemmas.Bool.{both_ways, and_parts, and_from, cases_lt, cases_eq, ltb-true, ltb-false, eq-eqb, eqb-true, false_from_ne_true}
use Rattle.std.proofs.lemmas.Option.{none-some, same_Some, slice_get-get_or, slice_get_past, slice_get-map}
use Rattle.std.proofs.lemmas.List.{take_all, length-map}
use Rattle.std.proofs.lemmas.List.Elements.{Contains-append_left, Contains-append_right, Contains-append_cases, Contains-get_or}
use Rattle.basics.proofs.ListFacts.{contains_here, contains_there, contains_none, contains_cases, contains_map, map_contains, got_contains, some_passes, passes_some}
use Rattle.basics.proofs.ListParts.{take_more}
use Rattle.index_spaces.specs.Space.{has_point, IsWithin, Meet}
use Rattle.graph_terms.specs.declared.verb.Access.{Access}
use Rattle.graph_terms.specs.declared.verb.Line.{Line}
use Rattle.graph_terms.specs.Fits.{IsGraph}
use Rattle.graph_terms.specs.Graph.{GraphValue, space_at}
use Rattle.graph_terms.specs.Access.{accesses, in_format, verb_accesses}
use Rattle.column_pieces.specs.Pieces.{Unions, piece_space, has_cell, IsConnected, IsWhole, ArePieces}
use Rattle.column_pieces.specs.declared.pieces.Piece.{Piece}
use Rattle.column_pieces.specs.declared.pieces.TheConstants.{MAX_COLUMN_PIECES}
use Rattle.column_parts.specs.Parts.{AreApart, IsFound, IsCovered}
use Rattle.column_parts.proofs.Public.{part_point}
use Rattle.piece_graphs.specs.Uncut.{AreOnce, OneEach, FewEach}
use Rattle.piece_graphs.specs.Over.{own_spaces, piece_spaces, AreOwnPieces}
use Rattle.piece_graphs.specs.Numbered.{all_pieces, has_two}

abbrev Lists : Type 0
Lists = List (Vec Piece Global)

-- THE CELLS OF PIECES
pub cell_column : (g : GraphValue) (us : Unions) (c p : ℕ) (x : Piece) → has_cell g us c p x ≡ true → x.column ≡ c
cell_column g us c p x h = eqb-true x.column c (and_parts (x.column == c) (has_point (piece_space g us x.space) p) h).0

pub cell_point : (g : GraphValue) (us : Unions) (c p : ℕ) (x : Piece) → has_cell g us c p x ≡ true → has_point (piece_space g us x.space) p ≡ true
cell_point g us c p x h = (and_parts (x.column == c) (has_point (piece_space g us x.space) p) h).1

pub cell_at : (g : GraphValue) (us : Unions) (x : Piece) (c p : ℕ) → x.column ≡ c → has_point (piece_space g us x.space) p ≡ true → has_cell g us c p x ≡ true
cell_at g us x c p e h = and_from (x.column == c) (has_point (piece_space g us x.space) p) (eq-eqb x.column c e) h

-- a piece stands in one place
pub once_place : (xs : List Piece) (x : Piece) (j k : ℕ) → AreOnce xs → slice_get xs j ≡ Some x → slice_get xs k ≡ Some x → j ≡ k
once_place [] x j k o p q = absurd (none-some x p)
once_place (y ∷ ys) x zero zero o p q = refl
once_place (y ∷ ys) x zero (suc k) o p q = absurd (o.0 (subst (Contains ys) (sym (same_Some y x p)) (got_contains ys k x q)))
once_place (y ∷ ys) x (suc j) zero o p q = absurd (o.0 (subst (Contains ys) (sym (same_Some y x q)) (got_contains ys j x p)))
once_place (y ∷ ys) x (suc j) (suc k) o p q = ap suc (once_place ys x j k o.1 p q)

-- ONE AFTER ANOTHER
all_append : (xs ys : Lists) → all_pieces (xs ++ ys) ≡ all_pieces xs ++ all_pieces ys
all_append [] ys = refl
all_append (v ∷ vs) ys = ap (λ zs. v.items ++ zs) (all_append vs ys) ∙ sym (append_assoc v.items (all_pieces vs) (all_pieces ys))

pub all_more : (lists : Lists) (k : ℕ) (v : Vec Piece Global) → slice_get lists k ≡ Some v → all_pieces (take (k + 1) lists) ≡ all_pieces (take k lists) ++ v.items
all_more lists k v at = ap all_pieces (take_more lists k v at) ∙ (all_append (take k lists) (v ∷ []) ∙ ap (λ zs. all_pieces (take k lists) ++ zs) (append-nil v.items))

pub all_taken : (lists : Lists) (k : ℕ) → length lists ≤ k → all_pieces (take k lists) ≡ all_pieces lists
all_taken lists k past = ap all_pieces (take_all k lists past)

pub some_of_all : (lists : Lists) (k : ℕ) → length (all_pieces (take k lists)) ≤ length (all_pieces lists)
some_of_all [] zero = omega arith
some_of_all [] (suc k) = omega arith
some_of_all (v ∷ vs) zero = omega arith
some_of_all (v ∷ vs) (suc k) =
    let rest : length (all_pieces (take k vs)) ≤ length (all_pieces vs) = some_of_all vs k in
    let one : length (v.items ++ all_pieces (take k vs)) ≡ length v.items + length (all_pieces (take k vs)) = length-append v.items (all_pieces (take k vs)) in
    let all : length (v.items ++ all_pieces vs) ≡ length v.items + length (all_pieces vs) = length-append v.items (all_pieces vs) in
    omega arith

-- a piece of all is one of a column
pub in_list : (lists : Lists) (x : Piece) → Contains (all_pieces lists) x → (c : ℕ) × (v : Vec Piece Global) × (slice_get lists c ≡ Some v) × Contains v.items x
in_list [] x k = absurd (contains_none x k)
in_list (v ∷ vs) x k = elim (Contains-append_cases v.items (all_pieces vs) x k) [
  | inl here ↦ (0, v, refl, here)
  | inr there ↦ (let r = in_list vs x there in (suc r.0, r.1, r.2, r.3))
]

pub in_all : (lists : Lists) (c : ℕ) (v : Vec Piece Global) (x : Piece) → slice_get lists c ≡ Some v → Contains v.items x → Contains (all_pieces lists) x
in_all [] c v x at k = absurd (none-some v at)
in_all (w ∷ vs) zero v x at k = Contains-append_left w.items (all_pieces vs) x (subst (λ (u : Vec Piece Global). Contains u.items x) (sym (same_Some w v at)) k)
in_all (w ∷ vs) (suc c) v x at k = Contains-append_right w.items (all_pieces vs) x (in_all vs c v x at k)

-- THE PIECES OF A GRAPH
-- all pieces of column n + c stand in list c
abbrev AreOwn : ℕ → Lists → Type 0
AreOwn n lists = (c : ℕ) (v : Vec Piece Global) (x : Piece) → slice_get lists c ≡ Some v → Contains v.items x → x.column ≡ n + c

own_later : (n : ℕ) (v : Vec Piece Global) (vs : Lists) → AreOwn n (v ∷ vs) → AreOwn (n + 1) vs
own_later n v vs own c w x at k = own (suc c) w x at k ∙ (let e : n + suc c ≡ n + 1 + c = omega arith in e)

own_beyond : (n : ℕ) (lists : Lists) → AreOwn n lists → (x : Piece) → Contains (all_pieces lists) x → n ≤ x.column
own_beyond n lists own x k =
    let r = in_list lists x k in
    let e : x.column ≡ n + r.0 = own r.0 r.1 x r.2 r.3 in
    omega arith

once_append : (xs ys : List Piece) → AreOnce xs → AreOnce ys → ((x : Piece) → Contains xs x → Contains ys x → ⊥) → AreOnce (xs ++ ys)
once_append [] ys o p apart = p
once_append (x ∷ xs) ys o p apart = (
  (λ k. elim (Contains-append_cases xs ys x k) [
    | inl here ↦ o.0 here
    | inr there ↦ apart x (contains_here x xs) there
  ]),
  once_append xs ys o.1 p (λ y h k. apart y (contains_there x xs y h) k),
)

once_all : (n : ℕ) (lists : Lists) → AreOwn n lists → ((c : ℕ) (v : Vec Piece Global) → slice_get lists c ≡ Some v → AreOnce v.items) → AreOnce (all_pieces lists)
once_all n [] own each = tt
once_all n (v ∷ vs) own each =
    once_append v.items (all_pieces vs) (each 0 v refl) (once_all (n + 1) vs (own_later n v vs own) (λ c w at. each (suc c) w at))
    (λ x h k.
    let first : x.column ≡ n + 0 = own 0 v x refl h in
    let later : n + 1 ≤ x.column = own_beyond (n + 1) vs (own_later n v vs own) x k in
    omega (arith, first, later))

-- how many are of one column
abbrev is_of : ℕ → Piece → Bool
is_of c x = x.column == c

filter_append : (t : Piece → Bool) (xs ys : List Piece) → filter t (xs ++ ys) ≡ filter t xs ++ filter t ys
filter_append t [] ys = refl
filter_append t (x ∷ xs) ys = by (t x) (filter_append t xs ys)
  where
    by : (b : Bool) → filter t (xs ++ ys) ≡ filter t xs ++ filter t ys → cond b (x ∷ filter t (xs ++ ys)) (filter t (xs ++ ys)) ≡ cond b (x ∷ filter t xs) (filter t xs) ++ filter t ys
    by true e = ap (λ zs. x ∷ zs) e
    by false e = e

filter_fewer : (t : Piece → Bool) (xs : List Piece) → length (filter t xs) ≤ length xs
filter_fewer t [] = omega arith
filter_fewer t (x ∷ xs) = by (t x) (filter_fewer t xs)
  where
    by : (b : Bool) → length (filter t xs) ≤ length xs → length (cond b (x ∷ filter t xs) (filter t xs)) ≤ length (x ∷ xs)
    by true e = omega (arith, e)
    by false e = omega (arith, e)

filter_none : (t : Piece → Bool) (xs : List Piece) → ((x : Piece) → Contains xs x → t x ≡ false) → filter t xs ≡ []
filter_none t [] h = refl
filter_none t (x ∷ xs) h = ap (λ b. cond b (x ∷ filter t xs) (filter t xs)) (h x (contains_here x xs)) ∙ filter_none t xs (λ y k. h y (contains_there x xs y k))

few_all : (n c : ℕ) (lists : Lists) → AreOwn n lists → ((j : ℕ) (v : Vec Piece Global) → slice_get lists j ≡ Some v → length v.items ≤ MAX_COLUMN_PIECES) → length (filter (is_of c) (all_pieces lists)) ≤ MAX_COLUMN_PIECES
few_all n c [] own few = (let low : 0 ≤ 64 = omega arith in low)
few_all n c (v ∷ vs) own few = subst (λ zs. length zs ≤ MAX_COLUMN_PIECES) (sym (filter_append (is_of c) v.items (all_pieces vs))) (by_column (cases_eq c n) (few_all (n + 1) c vs (own_later n v vs own) (λ j w at. few (suc j) w at)))
  where
    by_column : (c ≡ n) ⊎ (c ≢ n) → length (filter (is_of c) (all_pieces vs)) ≤ MAX_COLUMN_PIECES → length (filter (is_of c) v.items ++ filter (is_of c) (all_pieces vs)) ≤ MAX_COLUMN_PIECES
    by_column (inl same) rest =
        let none : filter (is_of c) (all_pieces vs) ≡ [] = filter_none (is_of c) (all_pieces vs) (λ x k. false_from_ne_true (is_of c x) (λ e.
        let is : x.column ≡ c = eqb-true x.column c e in
        let later : n + 1 ≤ x.column = own_beyond (n + 1) vs (own_later n v vs own) x k in
        omega (arith, is, same, later))) in
        let fewer : length (filter (is_of c) v.items) ≤ length v.items = filter_fewer (is_of c) v.items in
        let first : length v.items ≤ 64 = few 0 v refl in
        subst (λ zs. length zs ≤ MAX_COLUMN_PIECES) (sym (ap (λ zs. filter (is_of c) v.items ++ zs) none ∙ append-nil (filter (is_of c) v.items))) (let all : length (filter (is_of c) v.items) ≤ 64 = omega (arith, fewer, first) in all)
    by_column (inr other) rest =
        let none : filter (is_of c) v.items ≡ [] = filter_none (is_of c) v.items (λ x k. false_from_ne_true (is_of c x) (λ e.
        let first : x.column ≡ n + 0 = own 0 v x refl k in
        other (sym (eqb-true x.column c e) ∙ (first ∙ (let z : n + 0 ≡ n = omega arith in z))))) in
        subst (λ zs. length (zs ++ filter (is_of c) (all_pieces vs)) ≤ MAX_COLUMN_PIECES) (sym none) rest

module _ (g : GraphValue) (us : Unions) where
  abbrev over : Piece → List (ℕ × ℕ)
  over x = piece_space g us x.space

  once_of : (xs : List Piece) → AreApart (map over xs) → ((x : Piece) → Contains xs x → (p : ℕ) × (has_point (over x) p ≡ true)) → AreOnce xs
  once_of [] o points = tt
  once_of (x ∷ xs) o points = (
    (λ k. let p = points x (contains_here x xs) in o.0 (over x) (contains_map over xs x k) (p.0, p.1, p.1)),
    once_of xs o.1 (λ y k. points y (contains_there x xs y k)),
  )

  pub one_in : (xs : List Piece) → AreApart (map over xs) → (x y : Piece) → Contains xs x → Contains xs y → Meet (over x) (over y) → x ≡ y
  one_in [] o x y kx ky m = absurd (contains_none x kx)
  one_in (z ∷ zs) o x y kx ky m = by_places (λ k l. one_in zs o.1 x y k l m) (contains_cases z zs x kx) (contains_cases z zs y ky)
    where
      by_places : (Contains zs x → Contains zs y → x ≡ y) → (z ≡ x) ⊎ Contains zs x → (z ≡ y) ⊎ Contains zs y → x ≡ y
      by_places rest (inl e) (inl f) = sym e ∙ f
      by_places rest (inl e) (inr k) = absurd (o.0 (over y) (contains_map over zs y k) (subst (λ (w : Piece). Meet (over w) (over y)) (sym e) m))
      by_places rest (inr k) (inl f) = absurd (o.0 (over x) (contains_map over zs x k) (subst (λ (w : Piece). Meet (over w) (over x)) (sym f) (m.0, m.2, m.1)))
      by_places rest (inr k) (inr l) = rest k l

module _ (g : GraphValue) (us : Unions) (lists : Lists) (fits : IsGraph g) (are : AreOwnPieces g us lists) where
  own : AreOwn 0 lists
  own c v x at k = are.own c v x at k ∙ (let e : c ≡ 0 + c = omega arith in e)

  -- the pieces of a column
  found_at : (c : ℕ) (v : Vec Piece Global) → slice_get lists c ≡ Some v → IsFound g c (own_spaces g us v.items)
  found_at c v at = are.found.lists.each c (own_spaces g us v.items) (slice_get-map (λ (w : Vec Piece Global). own_spaces g us w.items) lists c ∙ ap (option_map (λ (w : Vec Piece Global). own_spaces g us w.items)) at)

  once_at : (c : ℕ) (v : Vec Piece Global) → slice_get lists c ≡ Some v → AreOnce v.items
  once_at c v at = once_of g us v.items (found_at c v at).apart (λ x k. part_point g c (own_spaces g us v.items) (over g us x) fits (found_at c v at) (contains_map (over g us) v.items x k))

  few_at : (c : ℕ) (v : Vec Piece Global) → slice_get lists c ≡ Some v → length v.items ≤ MAX_COLUMN_PIECES
  few_at c v at = subst (λ n. n ≤ MAX_COLUMN_PIECES) (length-map v.items (over g us)) (found_at c v at).few

  pub all_once : AreOnce (all_pieces lists)
  all_once = once_all 0 lists own once_at

  pub few_each : FewEach (all_pieces lists)
  few_each c = few_all 0 c lists own few_at

  -- pieces of one column stand in one list
  same_list : (x y : Piece) (c d : ℕ) (v w : Vec Piece Global) → slice_get lists c ≡ Some v → slice_get lists d ≡ Some w → Contains v.items x → Contains w.items y → x.column ≡ y.column → w ≡ v
  same_list x y c d v w at_c at_d kx ky same =
      let column : d ≡ c = sym (are.own d w y at_d ky) ∙ (sym same ∙ are.own c v x at_c kx) in
      same_Some w v (sym at_d ∙ (ap (slice_get lists) column ∙ at_c))

  -- TWO OF ONE COLUMN
  pub two_apart : has_two lists ≡ true → OneEach (all_pieces lists) → ⊥
  two_apart two one =
      let v = some_passes (λ (v : Vec Piece Global). nat_lt 1 (length v.items)) lists two in
      let more : 1 < length v.0.items = ltb-true 1 (length v.0.items) v.2 in
      let at : slice_get lists v.1.0 ≡ Some v.0 = slice_get-get_or lists v.1.0 v.0 v.1.1 ∙ ap (λ x. Some x) v.1.2 in
      let no_piece : Piece = record { column = 0; space = 0 } in
      let x = get_or v.0.items 0 no_piece in
      let y = get_or v.0.items 1 no_piece in
      let kx = Contains-get_or v.0.items 0 no_piece (omega (arith, more)) in
      let ky = Contains-get_or v.0.items 1 no_piece more in
      let same : x ≡ y = one x y (in_all lists v.1.0 v.0 x at kx) (in_all lists v.1.0 v.0 y at ky) (are.own v.1.0 v.0 x at kx ∙ sym (are.own v.1.0 v.0 y at ky)) in
      let e : 0 ≡ 1 = once_place v.0.items x 0 1 (once_at v.1.0 v.0 at) (slice_get-get_or v.0.items 0 no_piece (omega (arith, more))) (slice_get-get_or v.0.items 1 no_piece more ∙ ap (λ z. Some z) (sym same)) in
      omega (arith, e)

  pub one_each : has_two lists ≡ false → OneEach (all_pieces lists)
  one_each none x y kx ky c =
      let v = in_list lists x kx in
      let w = in_list lists y ky in
      let same : w.1 ≡ v.1 = same_list x y v.0 w.0 v.1 w.1 v.2 w.2 v.3 w.3 c in
      let few : length v.1.items ≤ 1 = ltb-false 1 (length v.1.items) (false_from_ne_true (nat_lt 1 (length v.1.items)) (λ e. both_ways (has_two lists) none
      (passes_some (λ (u : Vec Piece Global). nat_lt 1 (length u.items)) lists v.1 (got_contains lists v.0 v.1 v.2) e))) in
      only v.1.items few v.3 (subst (λ (u : Vec Piece Global). Contains u.items y) same w.3)
    where
      only : (xs : List Piece) → length xs ≤ 1 → Contains xs x → Contains xs y → x ≡ y
      only xs few h k =
          let one : h.0 < length xs = h.1 in
          let other : k.0 < length xs = k.1 in
          let place : h.0 ≡ k.0 = omega (arith, few, one, other) in
          same_Some x y (sym (slice_get-get_or xs h.0 x h.1 ∙ ap (λ z. Some z) h.2) ∙ (ap (slice_get xs) place ∙ (slice_get-get_or xs k.0 y k.1 ∙ ap (λ z. Some z) k.2)))

  -- the pieces of all columns are those of the graph
  pub all_found : ArePieces g us (all_pieces lists)
  all_found = record {
    covers = λ i a k.
        let cover : IsCovered (piece_spaces g us lists) a.column (space_at g a.space) = are.found.covers i (known i a k (cases_lt i (length g.lines))) a k in
        let v = list_of a.column cover.0 (slice_get lists a.column) refl (sym (slice_get-map (λ (w : Vec Piece Global). own_spaces g us w.items) lists a.column) ∙ cover.1) in
        let x = map_contains (over g us) v.0.items cover.2.0 (subst (λ ts. Contains ts cover.2.0) (sym v.2) cover.2.1) in
        (x.0, in_all lists a.column v.0 x.0 v.1 x.1, are.own a.column v.0 x.0 v.1 x.1, subst (IsWithin (space_at g a.space)) (sym x.2) cover.2.2);
    apart = λ x y c p kx ky hx hy.
        let v = in_list lists x kx in
        let w = in_list lists y ky in
        let same = same_list x y v.0 w.0 v.1 w.1 v.2 w.2 v.3 w.3 (cell_column g us c p x hx ∙ sym (cell_column g us c p y hy)) in
        one_in g us v.1.items (found_at v.0 v.1 v.2).apart x y v.3 (subst (λ (u : Vec Piece Global). Contains u.items y) same w.3) (p, cell_point g us c p x hx, cell_point g us c p y hy);
    over = λ x k.
        let v = in_list lists x k in
        let column : x.column ≡ v.0 = are.own v.0 v.1 x v.2 v.3 in
        subst (λ c. IsConnected g c (over g us x) ⊎ IsWhole g c (over g us x)) (sym column) ((found_at v.0 v.1 v.2).each (over g us x) (contains_map (over g us) v.1.items x v.3));
    used = λ k below. let y = are.used k below in (y.2, in_all lists y.0 y.1 y.2 y.3 y.4, y.5);
  }
    where
      known : (i : ℕ) (a : Access) → Contains (accesses g i) a → (i < length g.lines) ⊎ (length g.lines ≤ i) → i < length g.lines
      known i a k (inl below) = below
      known i a k (inr past) = absurd (contains_none a (subst (λ (o : Option Line). Contains (map (in_format g.format) (option_map_or verb_accesses (option_map (λ (l : Line). l.verb) o) [])) a) (slice_get_past g.lines i past) k))

      list_of : (c : ℕ) (ts : Unions) (o : Option (Vec Piece Global)) → slice_get lists c ≡ o → option_map (λ (w : Vec Piece Global). own_spaces g us w.items) o ≡ Some ts →
          (v : Vec Piece Global) × (slice_get lists c ≡ Some v) × (own_spaces g us v.items ≡ ts)
      list_of c ts None e f = absurd (none-some ts f)
      list_of c ts (Some v) e f = (v, e, same_Some (own_spaces g us v.items) ts f)
