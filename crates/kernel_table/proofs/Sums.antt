-- Sums and counts over the points of a space, interval by interval.
use Rattle.std.proofs.Common.{◌≡◌, ℕ, zero, suc, ◌+◌, ◌-◌, ◌*◌, ◌^◌, ◌&&◌, ◌<◌, ◌≤◌, Bool, true, false, nat_le, cond, List, [], ◌∷◌, ◌++◌, length, get_or, map, take, refl, sym, ap, ◌∙◌, inl, inr, arith}
use Rattle.std.specs.Prelude.{Contains, filter, sum, sum_by, count_by}
use Rattle.std.specs.List.{range_with_len, list_all}
use Rattle.std.proofs.lemmas.Bool.{cases_lt, le-leb, lt-leb, cond-true, cond-false, and_from, and_left, and_right}
use Rattle.std.proofs.lemmas.List.{take_more, append-nil, append_assoc, same_lists}
use Rattle.std.proofs.lemmas.List.Concat.{flat_map-append}
use Rattle.std.proofs.lemmas.List.Elements.{filter-append, filter_passes, All-filter, All-contains, All-contains_itself}
use Rattle.std.proofs.lemmas.List.Folds.{list_all-append, list_all-map}
use Rattle.std.proofs.lemmas.List.FromFn.{take-map-range_with_len, length-map-range_with_len, get_or-map-range_with_len, sum_by-map-range_with_len_more}
use Rattle.std.proofs.lemmas.List.Sums.{sum_by-cons, sum_by-append, sum-map}
use Rattle.std.proofs.Math.Nat.{mod-add-mod, add-mod-mod}
use Rattle.index_spaces.specs.Space.{interval_has, interval_points, points, AscendAbove, IsSpace}
use Rattle.graph_meaning.specs.Effect.{wrapped, wrapped_sum}
use Rattle.kernel_table.proofs.Runs.{place_in}

pub contains_there : {X : Type 0} (x : X) (xs : List X) (y : X) → Contains xs y → Contains (x ∷ xs) y
contains_there x xs y c = (suc c.0, (let h : c.0 < length xs = c.1 in omega arith), c.2)

-- functions that agree at each element have one sum
pub sum_agree : (f g : ℕ → ℕ) (ps : List ℕ) → ((q : ℕ) → Contains ps q → f q ≡ g q) → sum_by f ps ≡ sum_by g ps
sum_agree f g [] h = refl
sum_agree f g (p ∷ ps) h =
    sum_by-cons f p ps ∙ ap (λ n. n + sum_by f ps) (h p (0, omega arith, refl)) ∙ ap (λ n. g p + n) (sum_agree f g ps (λ q c. h q (contains_there p ps q c))) ∙ sym (sum_by-cons g p ps)

pub filtered_from : (t : ℕ → Bool) (ps : List ℕ) (q : ℕ) → Contains (filter t ps) q → Contains ps q
filtered_from t ps q c = All-contains (Contains ps) (filter t ps) q (All-filter t (Contains ps) ps (All-contains_itself ps)) c

pub filtered_agree : (f g : ℕ → ℕ) (t : ℕ → Bool) (ps : List ℕ) → ((q : ℕ) → t q ≡ true → f q ≡ g q) → sum_by f (filter t ps) ≡ sum_by g (filter t ps)
filtered_agree f g t ps h = sum_agree f g (filter t ps) (λ q c. h q (All-contains (λ x. t x ≡ true) (filter t ps) q (filter_passes t ps) c))

-- the points of one interval more
pub points_more : (s : List (ℕ × ℕ)) (k : ℕ) → k < length s → points (take (k + 1) s) ≡ points (take k s) ++ interval_points (get_or s k (0, 0))
points_more s k h =
    ap points (take_more s k (0, 0) h) ∙ flat_map-append interval_points (take k s) (get_or s k (0, 0) ∷ []) ∙ ap (λ ps. points (take k s) ++ ps) (append-nil (interval_points (get_or s k (0, 0))))

-- of the numbers of a range, those up to p
range_low : (a n p : ℕ) → a + n ≤ p + 1 → filter (λ q. nat_le q p) (range_with_len a n) ≡ range_with_len a n
range_low a zero p h = refl
range_low a (suc n) p h =
    cond-true (nat_le a p) (a ∷ filter (λ q. nat_le q p) (range_with_len (a + 1) n)) (filter (λ q. nat_le q p) (range_with_len (a + 1) n)) (le-leb a p (omega arith))
    ∙ ap (λ ps. a ∷ ps) (range_low (a + 1) n p (omega arith))

range_high : (a n p : ℕ) → p < a → filter (λ q. nat_le q p) (range_with_len a n) ≡ []
range_high a zero p h = refl
range_high a (suc n) p h =
    cond-false (nat_le a p) (a ∷ filter (λ q. nat_le q p) (range_with_len (a + 1) n)) (filter (λ q. nat_le q p) (range_with_len (a + 1) n)) (lt-leb a p h)
    ∙ range_high (a + 1) n p (omega arith)

range_mid : (a n p : ℕ) → a ≤ p → p < a + n → filter (λ q. nat_le q p) (range_with_len a n) ≡ range_with_len a (p - a + 1)
range_mid a zero p l h = absurd (omega arith)
range_mid a (suc n) p l h =
    let one : p - a + 1 ≡ suc (p - a) = omega arith in
    cond-true (nat_le a p) (a ∷ filter (λ q. nat_le q p) (range_with_len (a + 1) n)) (filter (λ q. nat_le q p) (range_with_len (a + 1) n)) (le-leb a p l)
    ∙ elim (cases_lt a p) [
      | inl m ↦ (
          let less : p - (a + 1) + 1 ≡ p - a = omega arith in
          ap (λ ps. a ∷ ps) (range_mid (a + 1) n p (omega arith) (omega arith) ∙ ap (range_with_len (a + 1)) less) ∙ ap (range_with_len a) (sym one)
          )
      | inr m ↦ (
          let none : p - a ≡ 0 = omega arith in
          ap (λ ps. a ∷ ps) (range_high (a + 1) n p (omega arith)) ∙ ap (λ j. range_with_len a (suc j)) (sym none) ∙ ap (range_with_len a) (sym one)
          )
    ]

-- no point is up to a number below all intervals
low_none : (low : ℕ) (s : List (ℕ × ℕ)) (p : ℕ) → AscendAbove low s → p < low → filter (λ q. nat_le q p) (points s) ≡ []
low_none low [] p a h = refl
low_none low (i ∷ s) p a h =
    let from : low ≤ i.0 = a.0 in
    let up : i.0 ≤ i.1 = a.1 in
    filter-append (λ q. nat_le q p) (interval_points i) (points s)
    ∙ ap (λ ps. ps ++ filter (λ q. nat_le q p) (points s)) (range_high i.0 (i.1 + 1 - i.0) p (omega arith))
    ∙ low_none (i.1 + 2) s p a.3 (omega arith)

-- the points up to one of an interval: those of the intervals before, and those of its own from its start
points_up_to : (low : ℕ) (s : List (ℕ × ℕ)) (k p : ℕ) → AscendAbove low s → k < length s → interval_has (get_or s k (0, 0)) p ≡ true →
    (low ≤ p) × (filter (λ q. nat_le q p) (points s) ≡ points (take k s) ++ range_with_len (get_or s k (0, 0)).0 (p - (get_or s k (0, 0)).0 + 1))
points_up_to low [] k p a h m = absurd (omega arith)
points_up_to low (i ∷ s) zero p a h m =
    let parts = place_in i p m in
    let from : low ≤ i.0 = a.0 in (
      omega (arith, parts),
      filter-append (λ q. nat_le q p) (interval_points i) (points s)
          ∙ ap (λ ps. ps ++ filter (λ q. nat_le q p) (points s)) (range_mid i.0 (i.1 + 1 - i.0) p parts.0 (omega (arith, parts)))
          ∙ ap (λ ps. range_with_len i.0 (p - i.0 + 1) ++ ps) (low_none (i.1 + 2) s p a.3 (omega (arith, parts)))
          ∙ append-nil (range_with_len i.0 (p - i.0 + 1)),
    )
points_up_to low (i ∷ s) (suc k) p a h m =
    let rest = points_up_to (i.1 + 2) s k p a.3 (omega arith) m in
    let from : low ≤ i.0 = a.0 in
    let up : i.0 ≤ i.1 = a.1 in
    let far : i.1 + 2 ≤ p = rest.0 in (
      omega arith,
      filter-append (λ q. nat_le q p) (interval_points i) (points s)
          ∙ ap (λ ps. ps ++ filter (λ q. nat_le q p) (points s)) (range_low i.0 (i.1 + 1 - i.0) p (omega arith))
          ∙ ap (λ ps. interval_points i ++ ps) rest.1
          ∙ sym (append_assoc (interval_points i) (points (take k s)) (range_with_len (get_or s k (0, 0)).0 (p - (get_or s k (0, 0)).0 + 1))),
    )

-- a running sum at a point
pub scan_at : (f : ℕ → ℕ) (s : List (ℕ × ℕ)) (k p so_far : ℕ) (run : List ℕ) → IsSpace s → k < length s → interval_has (get_or s k (0, 0)) p ≡ true → so_far ≡ wrapped_sum f (points (take k s)) →
    run ≡ map f (interval_points (get_or s k (0, 0))) → wrapped (so_far + sum (take (p - (get_or s k (0, 0)).0 + 1) run)) ≡ wrapped_sum f (filter (λ q. nat_le q p) (points s))
scan_at f s k p so_far run a h m e r =
    let i = get_or s k (0, 0) in
    let j = p - i.0 + 1 in
    let parts = place_in i p m in
    let ps = range_with_len i.0 j in
    let front : sum (take j run) ≡ sum_by f ps = ap (λ xs. sum (take j xs)) r ∙ ap sum (take-map-range_with_len f i.0 (i.1 + 1 - i.0) j (omega (arith, parts))) ∙ sum-map f ps in
    ap (λ n. wrapped (so_far + n)) front
    ∙ ap (λ n. wrapped (n + sum_by f ps)) e
    ∙ mod-add-mod (sum_by f (points (take k s))) (2 ^ 64) (sum_by f ps)
    ∙ ap wrapped (sym (sum_by-append f (points (take k s)) ps))
    ∙ ap (λ qs. wrapped_sum f qs) (sym (points_up_to 0 s k p a.1 h m).1)

-- a running sum after one interval more
pub scan_more : (f : ℕ → ℕ) (s : List (ℕ × ℕ)) (k so_far : ℕ) (run : List ℕ) → k < length s → so_far ≡ wrapped_sum f (points (take k s)) → run ≡ map f (interval_points (get_or s k (0, 0))) →
    wrapped (so_far + sum run) ≡ wrapped_sum f (points (take (k + 1) s))
scan_more f s k so_far run h e r =
    let i = get_or s k (0, 0) in
    ap (λ n. wrapped (so_far + n)) (ap sum r ∙ sum-map f (interval_points i))
    ∙ ap (λ n. wrapped (n + sum_by f (interval_points i))) e
    ∙ mod-add-mod (sum_by f (points (take k s))) (2 ^ 64) (sum_by f (interval_points i))
    ∙ ap wrapped (sym (sum_by-append f (points (take k s)) (interval_points i)))
    ∙ ap (λ qs. wrapped_sum f qs) (sym (points_more s k h))

-- a sum of products, one product more
pub product_more : (f : ℕ → ℕ) (first so_far k : ℕ) → so_far ≡ wrapped (first + sum (map f (range_with_len 0 k))) → wrapped (so_far + wrapped (f k)) ≡ wrapped (first + sum (map f (range_with_len 0 (k + 1))))
product_more f first so_far k e =
    add-mod-mod so_far (f k) (2 ^ 64)
    ∙ ap (λ n. wrapped (n + f k)) e
    ∙ mod-add-mod (first + sum (map f (range_with_len 0 k))) (2 ^ 64) (f k)
    ∙ ap wrapped (let m = sum_by-map-range_with_len_more (λ x. x) f 0 k k (omega arith) in let r : first + sum (map f (range_with_len 0 k)) + f k ≡ first + sum (map f (range_with_len 0 (k + 1))) = omega (arith, m) in r)

-- products of runs, and those of the points
products_run : (f g : ℕ → ℕ) (i : ℕ × ℕ) (one other : List ℕ) → one ≡ map f (interval_points i) → other ≡ map g (interval_points i) →
    map (λ k. get_or one k 0 * get_or other k 0) (range_with_len 0 (length one)) ≡ map (λ p. f p * g p) (interval_points i)
products_run f g i one other e h =
    let n = i.1 + 1 - i.0 in
    let size : length one ≡ n = ap length e ∙ length-map-range_with_len f i.0 n in
    let front = length-map-range_with_len (λ k. get_or one k 0 * get_or other k 0) 0 (length one) in
    let back = length-map-range_with_len (λ p. f p * g p) i.0 n in
    same_lists _ _ (front ∙ size ∙ sym back) (λ k d l.
    let short : k < length one = omega (arith, front) in
    let within : k < n = omega (arith, size, short) in
    get_or-map-range_with_len (λ k. get_or one k 0 * get_or other k 0) 0 (length one) k k d short (omega arith)
    ∙ ap (λ v. v * get_or other k 0) (ap (λ xs. get_or xs k 0) e ∙ get_or-map-range_with_len f i.0 n k (i.0 + k) 0 within refl)
    ∙ ap (λ v. f (i.0 + k) * v) (ap (λ xs. get_or xs k 0) h ∙ get_or-map-range_with_len g i.0 n k (i.0 + k) 0 within refl)
    ∙ sym (get_or-map-range_with_len (λ p. f p * g p) i.0 n k (i.0 + k) d within refl))

pub dot_more : (f g : ℕ → ℕ) (s : List (ℕ × ℕ)) (k so_far : ℕ) (one other : List ℕ) → k < length s → so_far ≡ wrapped_sum (λ p. f p * g p) (points (take k s)) → one ≡ map f (interval_points (get_or s k (0, 0))) →
    other ≡ map g (interval_points (get_or s k (0, 0))) → wrapped (so_far + sum (map (λ k. get_or one k 0 * get_or other k 0) (range_with_len 0 (length one)))) ≡ wrapped_sum (λ p. f p * g p) (points (take (k + 1) s))
dot_more f g s k so_far one other h e r q =
    let i = get_or s k (0, 0) in
    let t = λ (p : ℕ). f p * g p in
    ap (λ xs. wrapped (so_far + sum xs)) (products_run f g i one other r q)
    ∙ scan_more t s k so_far (map t (interval_points i)) h e refl

-- how many of the values of a function pass, counted in its arguments
pub count_map : (t : ℕ → Bool) (f : ℕ → ℕ) (ps : List ℕ) → count_by t (map f ps) ≡ count_by (λ p. t (f p)) ps
count_map t f [] = refl
count_map t f (p ∷ ps) =
    sum_by-cons (λ x. cond (t x) 1 0) (f p) (map f ps)
    ∙ ap (λ n. cond (t (f p)) 1 0 + n) (count_map t f ps)
    ∙ sym (sum_by-cons (λ q. cond (t (f q)) 1 0) p ps)

-- a count after one interval more
pub count_more : (t : ℕ → Bool) (f : ℕ → ℕ) (s : List (ℕ × ℕ)) (k : ℕ) (run : List ℕ) → k < length s → run ≡ map f (interval_points (get_or s k (0, 0))) →
    count_by (λ p. t (f p)) (points (take k s)) + count_by t run ≡ count_by (λ p. t (f p)) (points (take (k + 1) s))
count_more t f s k run h r =
    ap (λ xs. count_by (λ p. t (f p)) (points (take k s)) + count_by t xs) r
    ∙ ap (λ n. count_by (λ p. t (f p)) (points (take k s)) + n) (count_map t f (interval_points (get_or s k (0, 0))))
    ∙ sym (sum_by-append (λ p. cond (t (f p)) 1 0) (points (take k s)) (interval_points (get_or s k (0, 0))))
    ∙ ap (count_by (λ p. t (f p))) (sym (points_more s k h))

-- tests of all points, interval by interval
pub all_more : (t : ℕ → Bool) (f : ℕ → ℕ) (s : List (ℕ × ℕ)) (k : ℕ) (run : List ℕ) → k < length s → run ≡ map f (interval_points (get_or s k (0, 0))) →
    list_all (λ p. t (f p)) (points (take k s)) ≡ true → list_all t run ≡ true → list_all (λ p. t (f p)) (points (take (k + 1) s)) ≡ true
all_more t f s k run h r e g =
    let i = get_or s k (0, 0) in
    ap (list_all (λ p. t (f p))) (points_more s k h)
    ∙ list_all-append (λ p. t (f p)) (points (take k s)) (interval_points i)
    ∙ and_from (list_all (λ p. t (f p)) (points (take k s))) (list_all (λ p. t (f p)) (interval_points i)) e (sym (list_all-map t f (interval_points i)) ∙ ap (list_all t) (sym r) ∙ g)

pub all_fails : (t : ℕ → Bool) (f : ℕ → ℕ) (s : List (ℕ × ℕ)) (k : ℕ) (run : List ℕ) → k < length s → run ≡ map f (interval_points (get_or s k (0, 0))) → list_all t run ≡ false → list_all (λ p. t (f p)) (points s) ≡ false
all_fails t f [] k run h r g = absurd (omega arith)
all_fails t f (i ∷ s) zero run h r g =
    list_all-append (λ p. t (f p)) (interval_points i) (points s)
    ∙ and_left (list_all (λ p. t (f p)) (interval_points i)) (list_all (λ p. t (f p)) (points s)) (sym (list_all-map t f (interval_points i)) ∙ ap (list_all t) (sym r) ∙ g)
all_fails t f (i ∷ s) (suc k) run h r g =
    list_all-append (λ p. t (f p)) (interval_points i) (points s)
    ∙ and_right (list_all (λ p. t (f p)) (interval_points i)) (list_all (λ p. t (f p)) (points s)) (all_fails t f s k run (omega arith) r g)

pub all_agree : (t : ℕ → Bool) (f g : ℕ → ℕ) (ps : List ℕ) → ((q : ℕ) → Contains ps q → f q ≡ g q) → list_all (λ p. t (f p)) ps ≡ list_all (λ p. t (g p)) ps
all_agree t f g [] h = refl
all_agree t f g (p ∷ ps) h = ap (λ v. t v && list_all (λ q. t (f q)) ps) (h p (0, omega arith, refl)) ∙ ap (λ b. t (g p) && b) (all_agree t f g ps (λ q c. h q (contains_there p ps q c)))

pub count_agree : (t : ℕ → Bool) (f g : ℕ → ℕ) (ps : List ℕ) → ((q : ℕ) → Contains ps q → f q ≡ g q) → count_by (λ p. t (f p)) ps ≡ count_by (λ p. t (g p)) ps
count_agree t f g ps h = sum_agree (λ p. cond (t (f p)) 1 0) (λ p. cond (t (g p)) 1 0) ps (λ q c. ap (λ v. cond (t v) 1 0) (h q c))
