-- The reservations of contended sums.
use Rattle.std.proofs.Common.{◌≡◌, ℕ, zero, suc, ◌+◌, ◌<◌, ◌≤◌, Bool, true, false, cond, inl, inr, List, [], ◌∷◌, ◌++◌, length, take, refl, sym, ◌∙◌, ap, subst, append-nil, length-append, arith}
use Rattle.std.specs.Prelude.{Contains, Option, Some, None, filter_map, flat_map, slice_get, ◌==◌}
use Rattle.std.specs.Option.{option_map_or}
use Rattle.std.specs.List.{AllByRecursion}
use Rattle.std.proofs.lemmas.Bool.{true≢false, cases_order, ltb-true, lt-ltb, eq-eqb, false_from_ne_true}
use Rattle.std.proofs.lemmas.Grind.{flat_map-append}
use Rattle.std.proofs.lemmas.List.Elements.{filter_map-append}
use Rattle.basics.proofs.ListFacts.{contains_cases, contains_none}
use Rattle.graph_terms.specs.declared.decl.Decl.{Decl}
use Rattle.graph_terms.specs.declared.decl.Decl.TheVariants.{Lock}
use Rattle.graph_terms.specs.Limits.{limits}
use Rattle.graph_terms.specs.Graph.{GraphValue, space_of, columns_of, data_columns_of, lock_of, locks}
use Rattle.flow_order.specs.Written.{IsLock}
use Rattle.flow_order.specs.SourceParts.{has, with_event}
use Rattle.task_flow.specs.Construction.{is_contended, summed_column, needed, place_of, lock_for, new_name, first_number, locks_from, reservations, wants_many}
use Rattle.flow_order.proofs.Lists.{old_in, new_in}

pub locks_are : (n : ℕ) (cs : List ℕ) → AllByRecursion IsLock (locks_from n cs)
locks_are n [] = tt
locks_are n (c ∷ cs) = ((new_name n, refl), locks_are (suc n) cs)

are_by : (lines : ℕ) (o : Option ℕ) (cs : List ℕ) → AllByRecursion IsLock (option_map_or (λ first. locks_from (first + lines) cs) o [])
are_by lines None cs = tt
are_by lines (Some first) cs = locks_are (first + lines) cs

pub reservations_are : (f : GraphValue) (commute : Bool) → AllByRecursion IsLock (reservations f commute)
unfolding reservations
reservations_are f commute = are_by (limits f.format).lines (first_number f) (needed f commute (length f.lines))

-- where there are names
pub reservations_some : (f : GraphValue) (commute : Bool) (first : ℕ) → Some first ≡ first_number f → reservations f commute ≡ locks_from (first + (limits f.format).lines) (needed f commute (length f.lines))
unfolding reservations
reservations_some f commute first e = ap (λ (o : Option ℕ). option_map_or (λ first. locks_from (first + (limits f.format).lines) (needed f commute (length f.lines))) o []) (sym e)

pub reservations_none : (f : GraphValue) (commute : Bool) → None ≡ first_number f → reservations f commute ≡ []
unfolding reservations
reservations_none f commute e = ap (λ (o : Option ℕ). option_map_or (λ first. locks_from (first + (limits f.format).lines) (needed f commute (length f.lines))) o []) (sym e)

-- a reservation and its name
pub lock_named : (n : ℕ) (cs : List ℕ) (d : Decl) → Contains (locks_from n cs) d → (k : ℕ) × (k < length cs) × (d ≡ Lock (new_name (n + k)))
lock_named n [] d c = absurd (contains_none d c)
lock_named n (x ∷ cs) d c = elim (contains_cases (Lock (new_name n)) (locks_from (suc n) cs) d c) [
  | inl same ↦ (0, (let z : 0 < suc (length cs) = omega arith in z), sym same ∙ ap (λ z. Lock (new_name z)) (let e : n ≡ n + 0 = omega arith in e))
  | inr rest ↦ (let r = lock_named (suc n) cs d rest in (suc r.0, (let b : r.0 < length cs = r.1 in let z : suc r.0 < suc (length cs) = omega arith in z), r.2 ∙ ap (λ z. Lock (new_name z)) (let e : suc n + r.0 ≡ n + suc r.0 = omega arith in e)))
]

pub lock_before : (n : ℕ) (cs : List ℕ) (k : ℕ) (d : Decl) → Contains (take k (locks_from n cs)) d → (j : ℕ) × (j < k) × (d ≡ Lock (new_name (n + j)))
lock_before n cs zero d c = absurd (contains_none d c)
lock_before n [] (suc k) d c = absurd (contains_none d c)
lock_before n (x ∷ cs) (suc k) d c = elim (contains_cases (Lock (new_name n)) (take k (locks_from (suc n) cs)) d c) [
  | inl same ↦ (0, (let z : 0 < suc k = omega arith in z), sym same ∙ ap (λ z. Lock (new_name z)) (let e : n ≡ n + 0 = omega arith in e))
  | inr rest ↦ (let r = lock_before (suc n) cs k d rest in (suc r.0, (let b : r.0 < k = r.1 in let z : suc r.0 < suc k = omega arith in z), r.2 ∙ ap (λ z. Lock (new_name z)) (let e : suc n + r.0 ≡ n + suc r.0 = omega arith in e)))
]

pub locks_length : (n : ℕ) (cs : List ℕ) → length (locks_from n cs) ≡ length cs
locks_length n [] = refl
locks_length n (c ∷ cs) = ap suc (locks_length (suc n) cs)

pub lock_at : (n : ℕ) (cs : List ℕ) (k : ℕ) → k < length cs → slice_get (locks_from n cs) k ≡ Some (Lock (new_name (n + k)))
lock_at n [] k h = absurd (omega arith)
lock_at n (c ∷ cs) zero h = ap (λ z. Some (Lock (new_name z))) (let e : n ≡ n + 0 = omega arith in e)
lock_at n (c ∷ cs) (suc k) h = lock_at (suc n) cs k (let b : suc k < suc (length cs) = h in omega arith) ∙ ap (λ z. Some (Lock (new_name z))) (let e : suc n + k ≡ n + suc k = omega arith in e)

-- reservations are no spaces and no columns
lock_spaces : (ls : List Decl) → AllByRecursion IsLock ls → filter_map space_of ls ≡ []
lock_spaces [] a = refl
lock_spaces (d ∷ ls) a = ap (λ z. filter_map space_of (z ∷ ls)) (a.0).1 ∙ lock_spaces ls a.1

lock_columns : (ls : List Decl) → AllByRecursion IsLock ls → flat_map columns_of ls ≡ []
lock_columns [] a = refl
lock_columns (d ∷ ls) a = ap (λ z. flat_map columns_of (z ∷ ls)) (a.0).1 ∙ lock_columns ls a.1

pub spaces_stay : (ds ls : List Decl) → AllByRecursion IsLock ls → filter_map space_of (ds ++ ls) ≡ filter_map space_of ds
spaces_stay ds ls a = filter_map-append space_of ds ls ∙ (ap (λ xs. filter_map space_of ds ++ xs) (lock_spaces ls a) ∙ append-nil (filter_map space_of ds))

lock_data : (ls : List Decl) → AllByRecursion IsLock ls → flat_map data_columns_of ls ≡ []
lock_data [] a = refl
lock_data (d ∷ ls) a = ap (λ z. flat_map data_columns_of (z ∷ ls)) (a.0).1 ∙ lock_data ls a.1

pub data_stay : (ds ls : List Decl) → AllByRecursion IsLock ls → flat_map data_columns_of (ds ++ ls) ≡ flat_map data_columns_of ds
data_stay ds ls a = flat_map-append data_columns_of ds ls ∙ (ap (λ xs. flat_map data_columns_of ds ++ xs) (lock_data ls a) ∙ append-nil (flat_map data_columns_of ds))

pub columns_stay : (ds ls : List Decl) → AllByRecursion IsLock ls → flat_map columns_of (ds ++ ls) ≡ flat_map columns_of ds
columns_stay ds ls a = flat_map-append columns_of ds ls ∙ (ap (λ xs. flat_map columns_of ds ++ xs) (lock_columns ls a) ∙ append-nil (flat_map columns_of ds))

lock_count : (n : ℕ) (cs : List ℕ) → length (filter_map lock_of (locks_from n cs)) ≡ length cs
lock_count n [] = refl
lock_count n (c ∷ cs) = ap suc (lock_count (suc n) cs)

pub locks_more : (ds : List Decl) (n : ℕ) (cs : List ℕ) → length (filter_map lock_of (ds ++ locks_from n cs)) ≡ length (filter_map lock_of ds) + length cs
locks_more ds n cs =
    let a : length (filter_map lock_of (ds ++ locks_from n cs)) ≡ length (filter_map lock_of ds ++ filter_map lock_of (locks_from n cs)) = ap length (filter_map-append lock_of ds (locks_from n cs)) in
    let b : length (filter_map lock_of ds ++ filter_map lock_of (locks_from n cs)) ≡ length (filter_map lock_of ds) + length (filter_map lock_of (locks_from n cs)) = length-append (filter_map lock_of ds) (filter_map lock_of (locks_from n cs)) in
    let c : length (filter_map lock_of (locks_from n cs)) ≡ length cs = lock_count n cs in
    omega arith

-- the columns of contended sums
needed_by : (xs : List ℕ) (c : ℕ) (b : Bool) → length xs ≤ length (cond b (with_event xs c) xs)
needed_by xs c false = omega arith
needed_by xs c true = event_by xs c (has xs c)
  where
    event_by : (xs : List ℕ) (c : ℕ) (b : Bool) → length xs ≤ length (cond b xs (xs ++ c ∷ []))
    event_by xs c true = omega arith
    event_by xs c false = let l : length (xs ++ c ∷ []) ≡ length xs + 1 = length-append xs (c ∷ []) in omega arith

pub needed_grows : (f : GraphValue) (commute : Bool) (i n : ℕ) → i ≤ n → length (needed f commute i) ≤ length (needed f commute n)
needed_grows f commute i zero h = subst (λ z. length (needed f commute i) ≤ length (needed f commute z)) (let e : i ≡ 0 = omega arith in e) (omega arith)
needed_grows f commute i (suc n) h = elim (cases_order i (suc n)) [
  | inl same ↦ subst (λ z. length (needed f commute i) ≤ length (needed f commute z)) same (omega arith)
  | inr (inl below) ↦ (
      let a : length (needed f commute i) ≤ length (needed f commute n) = needed_grows f commute i n (omega arith) in
      let b : length (needed f commute n) ≤ length (needed f commute (suc n)) = needed_by (needed f commute n) (summed_column f n) (is_contended f commute n) in
      omega arith)
  | inr (inr above) ↦ absurd (omega arith)
]

pub many_later : (f : GraphValue) (commute : Bool) (i n : ℕ) → i ≤ n → wants_many f commute i ≡ true → wants_many f commute n ≡ true
many_later f commute i n h many =
    let a : length (needed f commute i) ≤ length (needed f commute n) = needed_grows f commute i n h in
    let b : (limits f.format).locks < length (locks f) + length (needed f commute i) = ltb-true (limits f.format).locks (length (locks f) + length (needed f commute i)) many in
    lt-ltb (limits f.format).locks (length (locks f) + length (needed f commute n)) (omega arith)

pub few_before : (f : GraphValue) (commute : Bool) (i n : ℕ) → i ≤ n → wants_many f commute n ≡ false → wants_many f commute i ≡ false
few_before f commute i n h few = false_from_ne_true (wants_many f commute i) (λ many. true≢false (sym (many_later f commute i n h many) ∙ few))

column_by : (xs : List ℕ) (c : ℕ) (b : Bool) → b ≡ true → Contains (cond b (with_event xs c) xs) c
column_by xs c false h = absurd (true≢false (sym h))
column_by xs c true h = new_in xs c

column_stays : (xs : List ℕ) (d c : ℕ) (b : Bool) → Contains xs c → Contains (cond b (with_event xs d) xs) c
column_stays xs d c false h = h
column_stays xs d c true h = old_in xs d c h

column_in : (f : GraphValue) (commute : Bool) (i n : ℕ) → i < n → is_contended f commute i ≡ true → Contains (needed f commute n) (summed_column f i)
column_in f commute i zero h contended = absurd (omega arith)
column_in f commute i (suc n) h contended = elim (cases_order i n) [
  | inl same ↦ subst (λ z. Contains (needed f commute (suc n)) (summed_column f z)) (sym same) (column_by (needed f commute n) (summed_column f n) (is_contended f commute n) (ap (is_contended f commute) (sym same) ∙ contended))
  | inr (inl below) ↦ column_stays (needed f commute n) (summed_column f n) (summed_column f i) (is_contended f commute n) (column_in f commute i n below contended)
  | inr (inr above) ↦ absurd (omega arith)
]

place_by : (x : ℕ) (xs : List ℕ) (c : ℕ) (b : Bool) → (x == c) ≡ b → Contains (x ∷ xs) c → (Contains xs c → place_of xs c < length xs) → cond b 0 (suc (place_of xs c)) < suc (length xs)
place_by x xs c true e h again = omega arith
place_by x xs c false e h again = elim (contains_cases x xs c h) [
  | inl same ↦ absurd (true≢false (sym (eq-eqb x c same) ∙ e))
  | inr rest ↦ (let b : place_of xs c < length xs = again rest in omega arith)
]

place_below : (xs : List ℕ) (c : ℕ) → Contains xs c → place_of xs c < length xs
place_below [] c h = absurd (contains_none c h)
place_below (x ∷ xs) c h = place_by x xs c (x == c) refl h (place_below xs c)

-- the reservation of a contended sum is there
pub lock_below : (f : GraphValue) (commute : Bool) (i : ℕ) → i < length f.lines → is_contended f commute i ≡ true → lock_for f commute i < length (locks f) + length (needed f commute (length f.lines))
lock_below f commute i h contended =
    let b : place_of (needed f commute (length f.lines)) (summed_column f i) < length (needed f commute (length f.lines)) = place_below (needed f commute (length f.lines)) (summed_column f i) (column_in f commute i (length f.lines) h contended) in
    omega arith
