-- What the tables of a graph give, and that its numbers are within the limits.
use Rattle.std.proofs.Common.{◌≡◌, ℕ, zero, suc, ◌+◌, ◌<◌, ◌≤◌, false, ◌||◌, List, [], ◌∷◌, ◌++◌, length, refl, sym, ◌∙◌, ap, arith, get_or}
use Rattle.std.specs.Prelude.{filter, filter_map, flat_map, Option, Some, None, option_map, slice_get, nat_lt}
use Rattle.std.specs.List.{cons_option}
use Rattle.std.specs.Option.{option_map_or}
use Rattle.std.proofs.lemmas.Bool.{or_parts, ltb-false}
use Rattle.std.proofs.lemmas.Option.{none-some, same_Some, slice_get_within, slice_get_read, slice_get-get_or}
use Rattle.std.proofs.lemmas.Grind.{flat_map-append}
use Rattle.std.proofs.lemmas.List.{append-nil, length-append}
use Rattle.std.proofs.lemmas.List.Elements.{filter_map-append}
use Rattle.graph_terms.specs.declared.decl.Decl.{Decl}
use Rattle.graph_terms.specs.declared.decl.Decl.TheVariants.{Space, Inst, Data, Lock, Barrier}
use Rattle.graph_terms.specs.declared.verb.Line.{Line}
use Rattle.graph_terms.specs.declared.why.Why.TheVariants as why
use Rattle.graph_terms.specs.Graph.{GraphValue, space_of, columns_of, data_columns_of, lock_of, barrier_of, named_spaces, columns, data_columns, locks, barriers}
use Rattle.graph_terms.specs.declared.decl.ColumnInfo.{ColumnInfo}
use Rattle.graph_terms.specs.Fits.{is_inst, is_large, has_many_spaces, is_beyond, cell_count, names_many, accesses_many, decl_tests, decl_fault, line_tests, line_fault, with_decl, with_line}
use Rattle.graph_terms.specs.Edges.{edges}
use Rattle.graph_terms.specs.Limits.{limits, limits_of_three, AllowsNoMore}
use Rattle.graph_terms.specs.Spelling.{head}
use Rattle.graph_indexes.specs.Tables.{TablesValue, places_of, firsts_of, tables_of, tables_with, IsWithinLimits}
use Rattle.graph_terms.proofs.Public.{none_first, long_head, most_limits}

cons_before : (o : Option ℕ) (a b c : List ℕ) → a ≡ b ++ c → cons_option o a ≡ cons_option o b ++ c
cons_before None a b c e = e
cons_before (Some k) a b c e = ap (λ l. k ∷ l) e

-- one more item
places_push : {X Y : Type 0} (f : X → Option Y) (n : ℕ) (xs : List X) (x : X) → places_of f n (xs ++ x ∷ []) ≡ places_of f n xs ++ places_of f (n + length xs) (x ∷ [])
places_push f n [] x = ap (λ k. places_of f k (x ∷ [])) (let e : n ≡ n + 0 = omega arith in e)
places_push f n (y ∷ ys) x = cons_before (option_map (λ z. n) (f y)) _ _ _ (places_push f (n + 1) ys x ∙ ap (λ k. places_of f (n + 1) ys ++ places_of f k (x ∷ [])) (let e : (n + 1) + length ys ≡ n + suc (length ys) = omega arith in e))

firsts_push : (f : Decl → List ColumnInfo) (n : ℕ) (ds : List Decl) (d : Decl) → firsts_of f n (ds ++ d ∷ []) ≡ firsts_of f n ds ++ (n + length (flat_map f ds)) ∷ []
firsts_push f n [] d = ap (λ k. k ∷ []) (let e : n ≡ n + 0 = omega arith in e)
firsts_push f n (x ∷ xs) d =
    let both : length (f x ++ flat_map f xs) ≡ length (f x) + length (flat_map f xs) = length-append (f x) (flat_map f xs) in
    let e : (n + length (f x)) + length (flat_map f xs) ≡ n + length (f x ++ flat_map f xs) = omega (arith, both) in
    ap (λ l. n ∷ l) (firsts_push f (n + length (f x)) xs d ∙ ap (λ k. firsts_of f (n + length (f x)) xs ++ k ∷ []) e)

pub length-firsts : (f : Decl → List ColumnInfo) (n : ℕ) (ds : List Decl) → length (firsts_of f n ds) ≡ length ds
length-firsts f n [] = refl
length-firsts f n (d ∷ ds) = ap suc (length-firsts f (n + length (f d)) ds)

infos_push : (f : Decl → List ColumnInfo) (ds : List Decl) (d : Decl) → flat_map f (ds ++ d ∷ []) ≡ flat_map f ds ++ f d
infos_push f ds d = flat_map-append f ds (d ∷ []) ∙ ap (λ l. flat_map f ds ++ l) (append-nil (f d))

-- the tables with one more declaration
pub tables_push : (ds : List Decl) (d : Decl) → tables_of (ds ++ d ∷ []) ≡ tables_with (tables_of ds) d (length ds)
tables_push ds d =
    let s : places_of space_of 0 (ds ++ d ∷ []) ≡ places_of space_of 0 ds ++ places_of space_of (length ds) (d ∷ []) =
    places_push space_of 0 ds d ∙ ap (λ k. places_of space_of 0 ds ++ places_of space_of k (d ∷ [])) (omega arith) in
    let f : firsts_of columns_of 0 (ds ++ d ∷ []) ≡ firsts_of columns_of 0 ds ++ length (flat_map columns_of ds) ∷ [] = firsts_push columns_of 0 ds d ∙ ap (λ k. firsts_of columns_of 0 ds ++ k ∷ []) (omega arith) in
    let c : flat_map columns_of (ds ++ d ∷ []) ≡ flat_map columns_of ds ++ columns_of d = infos_push columns_of ds d in
    let fd : firsts_of data_columns_of 0 (ds ++ d ∷ []) ≡ firsts_of data_columns_of 0 ds ++ length (flat_map data_columns_of ds) ∷ [] = firsts_push data_columns_of 0 ds d ∙ ap (λ k. firsts_of data_columns_of 0 ds ++ k ∷ []) (omega arith) in
    let cd : flat_map data_columns_of (ds ++ d ∷ []) ≡ flat_map data_columns_of ds ++ data_columns_of d = infos_push data_columns_of ds d in
    let l : filter_map lock_of (ds ++ d ∷ []) ≡ filter_map lock_of ds ++ filter_map lock_of (d ∷ []) = filter_map-append lock_of ds (d ∷ []) in
    let b : filter_map barrier_of (ds ++ d ∷ []) ≡ filter_map barrier_of ds ++ filter_map barrier_of (d ∷ []) = filter_map-append barrier_of ds (d ∷ []) in
    cc

-- the item of a place, and what f gives of it
pub record IsPlace {X Y : Type 0} (f : X → Option Y) (n : ℕ) (xs : List X) (s : ℕ) : Type 0 where
  pub place : ℕ
  pub item : X
  pub value : Y
  pub listed : slice_get (places_of f n xs) s ≡ Some (n + place)
  pub at : slice_get xs place ≡ Some item
  pub gives : f item ≡ Some value
  pub found : slice_get (filter_map f xs) s ≡ Some value

place_found_none : {X Y : Type 0} (f : X → Option Y) (n : ℕ) (x : X) (xs : List X) (s : ℕ) → f x ≡ None → IsPlace f (n + 1) xs s → IsPlace f n (x ∷ xs) s
place_found_none f n x xs s e p = record {
  place = suc p.place;
  item = p.item;
  value = p.value;
  listed = ap (λ o. slice_get (cons_option (option_map (λ y. n) o) (places_of f (n + 1) xs)) s) e ∙ (p.listed ∙ ap (λ k. Some k) (let m : (n + 1) + p.place ≡ n + suc p.place = omega arith in m));
  at = p.at;
  gives = p.gives;
  found = ap (λ o. slice_get (cons_option o (filter_map f xs)) s) e ∙ p.found;
}

place_found_later : {X Y : Type 0} (f : X → Option Y) (n : ℕ) (x : X) (xs : List X) (y : Y) (s : ℕ) → f x ≡ Some y → IsPlace f (n + 1) xs s → IsPlace f n (x ∷ xs) (suc s)
place_found_later f n x xs y s e p = record {
  place = suc p.place;
  item = p.item;
  value = p.value;
  listed = ap (λ o. slice_get (cons_option (option_map (λ y. n) o) (places_of f (n + 1) xs)) (suc s)) e ∙ (p.listed ∙ ap (λ k. Some k) (let m : (n + 1) + p.place ≡ n + suc p.place = omega arith in m));
  at = p.at;
  gives = p.gives;
  found = ap (λ o. slice_get (cons_option o (filter_map f xs)) (suc s)) e ∙ p.found;
}

place_found_here : {X Y : Type 0} (f : X → Option Y) (n : ℕ) (x : X) (xs : List X) (y : Y) → f x ≡ Some y → IsPlace f n (x ∷ xs) 0
place_found_here f n x xs y e = record {
  place = 0;
  item = x;
  value = y;
  listed = ap (λ o. slice_get (cons_option (option_map (λ y. n) o) (places_of f (n + 1) xs)) 0) e ∙ ap (λ k. Some k) (let m : n ≡ n + 0 = omega arith in m);
  at = refl;
  gives = e;
  found = ap (λ o. slice_get (cons_option o (filter_map f xs)) 0) e;
}

place_found_by : {X Y : Type 0} (f : X → Option Y) (n : ℕ) (x : X) (xs : List X) (o : Option Y) (s : ℕ) → f x ≡ o → s < length (cons_option o (filter_map f xs)) → ((k : ℕ) → k < length (filter_map f xs) → IsPlace f (n + 1) xs k) → IsPlace f n (x ∷ xs) s
place_found_by f n x xs None s e h again = place_found_none f n x xs s e (again s h)
place_found_by f n x xs (Some y) zero e h again = place_found_here f n x xs y e
place_found_by f n x xs (Some y) (suc s) e h again = place_found_later f n x xs y s e (again s (let b : suc s < suc (length (filter_map f xs)) = h in omega arith))

pub place_found : {X Y : Type 0} (f : X → Option Y) (n : ℕ) (xs : List X) (s : ℕ) → s < length (filter_map f xs) → IsPlace f n xs s
place_found f n [] s h = absurd (let b : s < 0 = h in omega arith)
place_found f n (x ∷ xs) s h = place_found_by f n x xs (f x) s refl h (λ k b. place_found f (n + 1) xs k b)

-- one place a value
length-places_by : {Y : Type 0} (n : ℕ) (o : Option Y) (ps : List ℕ) (ys : List Y) → length ps ≡ length ys → length (cons_option (option_map (λ (y : Y). n) o) ps) ≡ length (cons_option o ys)
length-places_by n None ps ys e = e
length-places_by n (Some y) ps ys e = ap suc e

pub length-places : {X Y : Type 0} (f : X → Option Y) (n : ℕ) (xs : List X) → length (places_of f n xs) ≡ length (filter_map f xs)
length-places f n [] = refl
length-places f n (x ∷ xs) = length-places_by n (f x) (places_of f (n + 1) xs) (filter_map f xs) (length-places f (n + 1) xs)

length-cons_option : {Y : Type 0} (o : Option Y) (ys : List Y) → length (cons_option o ys) ≤ suc (length ys)
length-cons_option None ys = omega arith
length-cons_option (Some y) ys = omega arith

length-filter_map : {X Y : Type 0} (f : X → Option Y) (xs : List X) → length (filter_map f xs) ≤ length xs
length-filter_map f [] = omega arith
length-filter_map f (x ∷ xs) = let h : length (filter_map f xs) ≤ length xs = length-filter_map f xs in let k : length (cons_option (f x) (filter_map f xs)) ≤ suc (length (filter_map f xs)) = length-cons_option (f x) (filter_map f xs) in omega arith

-- a quantity that is not above the greatest of its format is not above that of format 3
below_most : (most n top : ℕ) → most ≤ top → nat_lt most n ≡ false → n ≤ top
below_most most n top m h = let b : n ≤ most = ltb-false most n h in omega arith

-- a graph of which no quantity is too great
pub within_limits : (g : GraphValue) → is_beyond g ≡ false → IsWithinLimits g
within_limits g h =
    let most : AllowsNoMore (limits g.format) limits_of_three = most_limits g.format in
    let text = or_parts (nat_lt (limits g.format).text (length (head g))) _ h in
    let spaces = or_parts (has_many_spaces g) _ text.1 in
    let insts = or_parts (nat_lt (limits g.format).insts (length (filter is_inst g.decls))) _ spaces.1 in
    let cols = or_parts (nat_lt (limits g.format).columns (length (columns g) + length (data_columns g))) _ insts.1 in
    let cells = or_parts (nat_lt (limits g.format).cells (cell_count g)) _ cols.1 in
    let ls = or_parts (nat_lt (limits g.format).locks (length (locks g))) _ cells.1 in
    let bs = or_parts (nat_lt (limits g.format).barriers (length (barriers g))) _ ls.1 in
    let lines = or_parts (nat_lt (limits g.format).lines (length g.lines)) _ bs.1 in
    limits_by g (below_most _ _ _ most.text text.0) (below_most _ _ _ most.insts insts.0) (below_most _ _ _ most.columns cols.0) (below_most _ _ _ most.cells cells.0)
    (below_most _ _ _ most.locks ls.0) (below_most _ _ _ most.barriers bs.0) (below_most _ _ _ most.lines lines.0) (below_most _ _ _ most.edges lines.1)
  where
    limits_by : (g : GraphValue) → length (head g) ≤ 16777216 → length (filter is_inst g.decls) ≤ 1024 → length (columns g) + length (data_columns g) ≤ 4096 → cell_count g ≤ 16777216 →
        length (locks g) ≤ 1024 → length (barriers g) ≤ 1024 → length g.lines ≤ 65536 → length (edges g) ≤ 524288 → IsWithinLimits g
    limits_by g text i c m l b n e =
        let long : 1 + length g.decls + length g.lines ≤ length (head g) = long_head g in
        let some : length (named_spaces g) ≤ length g.decls = length-filter_map space_of g.decls in
        let ds : length g.decls ≤ 16777216 = omega arith in
        record { few_decls = ds; few_lines = n; few_spaces = omega arith; few_columns = c; few_locks = l; few_barriers = b; short_text = text; few_insts = i; few_cells = m; few_edges = e }

-- the table gives the place of each space
space_of_is : (d : Decl) (x : List ℕ × List (ℕ × ℕ)) → space_of d ≡ Some x → d ≡ Space x.0 x.1
space_of_is (Space name space) x e = cc
space_of_is (Inst name space fields) x e = absurd (none-some x e)
space_of_is (Data name space fields) x e = absurd (none-some x e)
space_of_is (Lock name) x e = absurd (none-some x e)
space_of_is (Barrier name count op first) x e = absurd (none-some x e)

module _ (g : GraphValue) (t : TablesValue) (tables : t ≡ tables_of g.decls) (s : ℕ) (known : s < length (named_spaces g)) where
  pub space_listed : s < length t.space_places
  space_listed = let count : length t.space_places ≡ length (named_spaces g) = ap (λ (x : TablesValue). length x.space_places) tables ∙ length-places space_of 0 g.decls in omega arith

  place_is : (p : IsPlace space_of 0 g.decls s) (k : ℕ) → slice_get t.space_places s ≡ Some k → k ≡ p.place
  place_is p k at = let q : k ≡ 0 + p.place = same_Some k (0 + p.place) (sym at ∙ (ap (λ (x : TablesValue). slice_get x.space_places s) tables ∙ p.listed)) in omega arith

  pub space_place_below : (k : ℕ) → slice_get t.space_places s ≡ Some k → k < length g.decls
  space_place_below k at =
      let p = place_found space_of 0 g.decls s known in
      let same = place_is p k at in
      let below : p.place < length g.decls = slice_get_within g.decls p.place p.item p.at in
      omega arith

  -- what is read there gives that space
  pub space_read : (k : ℕ) (d : Decl) → slice_get t.space_places s ≡ Some k → d ≡ get_or g.decls k d → space_of d ≡ slice_get (named_spaces g) s
  space_read k d at read =
      let p = place_found space_of 0 g.decls s known in
      let got : slice_get g.decls k ≡ Some d = slice_get_read g.decls (length g.decls) k d refl (space_place_below k at) read in
      ap space_of (same_Some d p.item (sym got ∙ (ap (λ i. slice_get g.decls i) (place_is p k at) ∙ p.at))) ∙ (p.gives ∙ sym p.found)

-- a declaration that gives a space is that of a space
pub space_decl_is : (xs : List (List ℕ × List (ℕ × ℕ))) (s : ℕ) (d : Decl) → s < length xs → space_of d ≡ slice_get xs s →
    (name : List ℕ) × (d ≡ Space name (option_map_or (λ x. x.1) (slice_get xs s) [])) × (slice_get xs s ≡ Some (name, option_map_or (λ x. x.1) (slice_get xs s) []))
space_decl_is xs s d known gives =
    let x = get_or xs s ([], []) in
    let at : slice_get xs s ≡ Some x = slice_get-get_or xs s ([], []) known in
    let space : option_map_or (λ (y : List ℕ × List (ℕ × ℕ)). y.1) (slice_get xs s) [] ≡ x.1 = ap (λ (o : Option (List ℕ × List (ℕ × ℕ))). option_map_or (λ (y : List ℕ × List (ℕ × ℕ)). y.1) o []) at in
    (x.0, space_of_is d x (gives ∙ at) ∙ ap (λ z. Space x.0 z) (sym space), at ∙ ap (λ z. Some (x.0, z)) (sym space))

-- a graph with one more declaration, and with one more line, is within the limits
pub limits_decl : (g : GraphValue) (d : Decl) → decl_fault g d ≡ None → IsWithinLimits (with_decl g d)
limits_decl g d h = within_limits (with_decl g d) (or_parts (is_large g.format d) _ (none_first (decl_tests g d) h (is_large g.format d || is_beyond (with_decl g d), why.Limit) (4, omega arith, refl))).1

pub limits_line : (g : GraphValue) (l : Line) → line_fault g l ≡ None → IsWithinLimits (with_line g l)
limits_line g l h =
    let few = or_parts (names_many g.format l.verb l.on) _ (none_first (line_tests g l) h (names_many g.format l.verb l.on || (accesses_many l.verb || is_beyond (with_line g l)), why.Limit) (7, omega arith, refl)) in
    within_limits (with_line g l) (or_parts (accesses_many l.verb) _ few.1).1
