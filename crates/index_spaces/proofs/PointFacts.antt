-- How the points of intervals are counted and found.
use Rattle.std.proofs.Common.{◌≡◌, ℕ, zero, suc, ◌+◌, ◌-◌, ◌^◌, ◌<◌, ◌≤◌, min, true, false, cond, nat_lt, nat_le, List, [], ◌∷◌, ◌++◌, length, get_or, take, sym, ap, ◌∙◌, refl, inl, inr, arith, count_by, length-append, below_more}
use Rattle.std.proofs.lemmas.Bool.{cases_lt, cond-true, cond-false, lt-ltb, le-ltb, le-leb, lt-leb, and_from, and_left, and_right, and_parts, leb-true}
use Rattle.std.proofs.lemmas.List.{take_more, take_all, get_or_default, get_or_append_left, get_or_push}
use Rattle.std.proofs.lemmas.List.Concat.{flat_map-append, get_or-flat_map}
use Rattle.std.proofs.lemmas.List.FromFn.{length-range_with_len, get_or-range_with_len}
use Rattle.std.proofs.lemmas.List.Sums.{sum_by-cons, sum_by-append}
use Rattle.std.proofs.lemmas.List.Folds.{list_any_at, list_any_none}
use Rattle.std.specs.List.{range_with_len, HoldsAt}
use Rattle.std.specs.List.Sorted.{IsNonDecreasing, IsNonDecreasingBy, IsPartitionPoint}
use Rattle.index_spaces.specs.Space.{interval_has, has_point, interval_points, points, space_size, rank, point_at, AscendAbove, IsSpace}

-- how many points an interval has
abbrev pub interval_size : ℕ × ℕ → ℕ
interval_size i = i.1 + 1 - i.0

pub space_size-cons : (i : ℕ × ℕ) (s : List (ℕ × ℕ)) → space_size (i ∷ s) ≡ interval_size i + space_size s
space_size-cons i s = length-append (interval_points i) (points s) ∙ ap (λ n. n + space_size s) (length-range_with_len i.0 (i.1 + 1 - i.0))

pub space_size-append : (s t : List (ℕ × ℕ)) → space_size (s ++ t) ≡ space_size s + space_size t
space_size-append s t = ap length (flat_map-append interval_points s t) ∙ length-append (points s) (points t)

pub space_size-push : (s : List (ℕ × ℕ)) (i : ℕ × ℕ) → space_size (s ++ i ∷ []) ≡ space_size s + interval_size i
space_size-push s i =
    let one = space_size-cons i [] in
    let both = space_size-append s (i ∷ []) in
    omega (arith, one, both)

-- one interval more
pub space_size-more : (s : List (ℕ × ℕ)) (k : ℕ) (d : ℕ × ℕ) → k < length s → space_size (take (k + 1) s) ≡ space_size (take k s) + interval_size (get_or s k d)
space_size-more s k d h = ap space_size (take_more s k d h) ∙ space_size-push (take k s) (get_or s k d)

-- how many numbers of a range lie below p
count_range : (a n p : ℕ) → count_by (λ q. nat_lt q p) (range_with_len a n) ≡ min n (p - a)
count_range a zero p = omega arith
count_range a (suc n) p =
    let rest = count_range (a + 1) n p in
    let first = sum_by-cons (λ q. cond (nat_lt q p) 1 0) a (range_with_len (a + 1) n) in
    elim (cases_lt a p) [
      | inl h ↦ (let one = cond-true {A = ℕ} (nat_lt a p) 1 0 (lt-ltb a p h) in omega (arith, first, rest, one))
      | inr h ↦ (let none = cond-false {A = ℕ} (nat_lt a p) 1 0 (le-ltb a p h) in omega (arith, first, rest, none))
    ]

pub rank-cons : (i : ℕ × ℕ) (s : List (ℕ × ℕ)) (p : ℕ) → rank (i ∷ s) p ≡ min (interval_size i) (p - i.0) + rank s p
rank-cons i s p =
    sum_by-append (λ q. cond (nat_lt q p) 1 0) (interval_points i) (points s) ∙ ap (λ n. n + rank s p) (count_range i.0 (i.1 + 1 - i.0) p)

-- no point of a space lies below its first
pub rank-low : (low p : ℕ) (s : List (ℕ × ℕ)) → AscendAbove low s → p ≤ low → rank s p ≡ 0
rank-low low p [] a h = refl
rank-low low p (i ∷ s) a h =
    let rest = rank-low (i.1 + 2) p s a.3 (let b : low ≤ i.0 = a.0 in let e : i.0 ≤ i.1 = a.1 in omega arith) in
    let first = rank-cons i s p in
    let b : low ≤ i.0 = a.0 in
    omega (arith, rest, first)

-- an interval begins no lower than what all are above
pub starts_above : (low : ℕ) (s : List (ℕ × ℕ)) (k : ℕ) (d : ℕ × ℕ) → AscendAbove low s → k < length s → low ≤ (get_or s k d).0
starts_above low [] k d a h = omega arith
starts_above low (i ∷ s) zero d a h = a.0
starts_above low (i ∷ s) (suc k) d a h =
    let rest = starts_above (i.1 + 2) s k d a.3 (omega arith) in
    let b : low ≤ i.0 = a.0 in
    let e : i.0 ≤ i.1 = a.1 in
    omega (arith, rest)

-- an interval is not reversed, and its points are numbers of 32 bits
pub runs_up : (low : ℕ) (s : List (ℕ × ℕ)) (k : ℕ) (d : ℕ × ℕ) → AscendAbove low s → k < length s → ((get_or s k d).0 ≤ (get_or s k d).1) × ((get_or s k d).1 < 2 ^ 32)
runs_up low [] k d a h = absurd (omega arith)
runs_up low (i ∷ s) zero d a h = (a.1, a.2)
runs_up low (i ∷ s) (suc k) d a h = runs_up (i.1 + 2) s k d a.3 (omega arith)

-- each interval ends at least two below the start of a later one
pub ends_below : (low : ℕ) (s : List (ℕ × ℕ)) (j k : ℕ) (d : ℕ × ℕ) → AscendAbove low s → j < k → k < length s → (get_or s j d).1 + 2 ≤ (get_or s k d).0
ends_below low [] j k d a h l = omega arith
ends_below low (i ∷ s) j zero d a h l = omega arith
ends_below low (i ∷ s) zero (suc k) d a h l = starts_above (i.1 + 2) s k d a.3 (omega arith)
ends_below low (i ∷ s) (suc j) (suc k) d a h l = ends_below (i.1 + 2) s j k d a.3 (omega arith) (omega arith)

-- the points below one of an interval, or below the number after it, are those of the intervals before, and those of the interval
pub rank-at : (low p : ℕ) (s : List (ℕ × ℕ)) (k : ℕ) (d : ℕ × ℕ) → AscendAbove low s → k < length s → (get_or s k d).0 ≤ p → p ≤ (get_or s k d).1 + 1 →
    rank s p ≡ space_size (take k s) + (p - (get_or s k d).0)
rank-at low p [] k d a h b e = omega arith
rank-at low p (i ∷ s) zero d a h b e =
    let rest = rank-low (i.1 + 2) p s a.3 (omega arith) in
    let first = rank-cons i s p in
    omega (arith, rest, first)
rank-at low p (i ∷ s) (suc k) d a h b e =
    let rest = rank-at (i.1 + 2) p s k d a.3 (omega arith) b e in
    let first = rank-cons i s p in
    let above = starts_above (i.1 + 2) s k d a.3 (omega arith) in
    let size = space_size-cons i (take k s) in
    omega (arith, rest, first, above, size)

pub interval_has-parts : (i : ℕ × ℕ) (p : ℕ) → interval_has i p ≡ true → (i.0 ≤ p) × (p ≤ i.1)
interval_has-parts i p h = let both = and_parts (nat_le i.0 p) (nat_le p i.1) h in (leb-true i.0 p both.0, leb-true p i.1 both.1)

pub has_point-at : (s : List (ℕ × ℕ)) (p k : ℕ) (d : ℕ × ℕ) → k < length s → (get_or s k d).0 ≤ p → p ≤ (get_or s k d).1 → has_point s p ≡ true
has_point-at s p k d h b e = list_any_at (λ i. interval_has i p) s k d h (and_from _ _ (le-leb _ p b) (le-leb p _ e))

-- a number above the first k intervals and below the next is no point
pub has_point-between : (low : ℕ) (s : List (ℕ × ℕ)) (p k : ℕ) → AscendAbove low s → ((j : ℕ) (d : ℕ × ℕ) → j < k → (get_or s j d).1 < p) → ((d : ℕ × ℕ) → k < length s → p < (get_or s k d).0) → has_point s p ≡ false
has_point-between low s p k a below above =
    list_any_none (λ i. interval_has i p) s (λ j d h. elim (cases_lt j k) [
      | inl l ↦ and_right _ _ (lt-leb p _ (below j d l))
      | inr m ↦ and_left _ _ (lt-leb _ p (elim (cases_lt k j) [
        | inl l ↦ (let gap = ends_below low s k j d a l h in let up = runs_up low s k d a (omega arith) in let from = above d (omega arith) in omega (arith, gap, up, from))
        | inr n ↦ (let e : j ≡ k = omega arith in rw e (above d (omega arith)))
      ]))
    ])

-- the point of an interval at a distance from its start
pub point_at-in : (s : List (ℕ × ℕ)) (k j : ℕ) (d : ℕ × ℕ) → k < length s → j < interval_size (get_or s k d) → point_at s (space_size (take k s) + j) ≡ (get_or s k d).0 + j
point_at-in s k j d h l =
    let i = get_or s k d in
    get_or-flat_map interval_points s k j d 0 h (rw (length-range_with_len i.0 (i.1 + 1 - i.0)) l)
    ∙ get_or-range_with_len i.0 (i.1 + 1 - i.0) j 0 l

-- a space has a point
pub space_size-positive : (s : List (ℕ × ℕ)) → IsSpace s → 0 < space_size s
space_size-positive [] a = a.0
space_size-positive (i ∷ s) a =
    let size = space_size-cons i s in
    let up : i.0 ≤ i.1 = a.1.1 in
    omega (arith, size)

-- the ends of the intervals do not fall
pub ends_rise : (s : List (ℕ × ℕ)) → AscendAbove 0 s → IsNonDecreasingBy (λ (i : ℕ × ℕ). i.1) s
ends_rise s a i j d le h = elim (cases_lt i j) [
  | inl l ↦ (let gap = ends_below 0 s i j d a l h in let up = runs_up 0 s j d a h in omega (arith, gap, up))
  | inr m ↦ (let e : i ≡ j = omega arith in rw e (let r : (get_or s j d).1 ≤ (get_or s j d).1 = omega arith in r))
]

-- more intervals have no fewer points
pub take_rises : (s : List (ℕ × ℕ)) (i j : ℕ) → i ≤ j → space_size (take i s) ≤ space_size (take j s)
take_rises s zero j le = omega arith
take_rises s (suc i) zero le = omega arith
take_rises [] (suc i) (suc j) le = omega arith
take_rises (x ∷ s) (suc i) (suc j) le =
    let rest = take_rises s i j (omega arith) in
    let one = space_size-cons x (take i s) in
    let other = space_size-cons x (take j s) in
    omega (arith, rest, one, other)

-- the first k intervals end below p, and the others do not
abbrev pub StopsAt : List (ℕ × ℕ) → ℕ → ℕ → Type 0
StopsAt s p k = IsPartitionPoint (λ (i : ℕ × ℕ). i.1 < p) (λ (i : ℕ × ℕ). p ≤ i.1) s k

-- the interval where the intervals that end below p stop has p, or none has
pub place_has : (s : List (ℕ × ℕ)) (p k : ℕ) → StopsAt s p k → k < length s → (get_or s k (0, 0)).0 ≤ p → HoldsAt (λ i. interval_has i p ≡ true) s k
place_has s p k point h b d =
    rw (get_or_default s k d (0, 0) h) (and_from _ _ (le-leb _ p b) (le-leb p _ (point.1 k (0, 0) (omega arith) h)))

pub place_has_not : (s : List (ℕ × ℕ)) (p k : ℕ) → AscendAbove 0 s → StopsAt s p k → (k < length s → p < (get_or s k (0, 0)).0) → has_point s p ≡ false
place_has_not s p k a point above =
    has_point-between 0 s p k a (λ j d h. point.0 j d (omega arith) h) (λ d h. rw (get_or_default s k d (0, 0) h) (above h))

-- the points of some intervals and of the next are no more than all
pub size_so_far : (s : List (ℕ × ℕ)) (k : ℕ) → k < length s → space_size (take k s) + interval_size (get_or s k (0, 0)) ≤ space_size s
size_so_far s k h =
    let more = space_size-more s k (0, 0) h in
    let rise = take_rises s (k + 1) (length s) (omega arith) in
    let whole = ap space_size (take_all (length s) s (omega arith)) in
    omega (arith, more, rise, whole)

-- one more rank, of the next interval's first point
pub ranks_more : (ranks : List ℕ) (s : List (ℕ × ℕ)) (n size : ℕ) → length ranks ≡ n → ((k : ℕ) → k < n → get_or ranks k 0 ≡ space_size (take k s)) → size ≡ space_size (take n s) →
    (k : ℕ) → k < n + 1 → get_or (ranks ++ size ∷ []) k 0 ≡ space_size (take k s)
ranks_more ranks s n size e below last =
    below_more (λ k. get_or (ranks ++ size ∷ []) k 0 ≡ space_size (take k s)) n
    (λ k h. get_or_append_left ranks (size ∷ []) 0 k (omega arith) ∙ below k h)
    (get_or_push ranks size 0 n e ∙ last)

-- the rank of a point of an interval
pub record IsRankAt (s : List (ℕ × ℕ)) (p k : ℕ) : Type 0 where
  pub from : (get_or s k (0, 0)).0 ≤ p
  pub to : p ≤ (get_or s k (0, 0)).1
  pub is_rank : rank s p ≡ space_size (take k s) + (p - (get_or s k (0, 0)).0)
  pub below : rank s p < space_size s

pub rank_in : (s : List (ℕ × ℕ)) (p k : ℕ) → IsSpace s → k < length s → HoldsAt (λ i. interval_has i p ≡ true) s k → IsRankAt s p k
rank_in s p k a h has =
    let i = get_or s k (0, 0) in
    let both = interval_has-parts i p (has (0, 0)) in
    let from = both.0 in
    let to = both.1 in
    let at = rank-at 0 p s k (0, 0) a.1 h from (omega arith) in
    let so_far = size_so_far s k h in
    record { from = from; to = to; is_rank = at; below = omega (arith, so_far) }

-- the point of a rank, by the last interval whose first rank is not above it
pub record IsPointAt (s : List (ℕ × ℕ)) (r k start : ℕ) : Type 0 where
  pub from : start ≤ r
  pub to : (get_or s k (0, 0)).0 + (r - start) ≤ (get_or s k (0, 0)).1
  pub is_point : (get_or s k (0, 0)).0 + (r - start) ≡ point_at s r

pub ranks_rise : (s : List (ℕ × ℕ)) (ranks : List ℕ) → length ranks ≡ length s → ((k : ℕ) → k < length s → get_or ranks k 0 ≡ space_size (take k s)) → IsNonDecreasing ranks
ranks_rise s ranks e below i j d le h =
    let rise = take_rises s i j le in
    rw (get_or_default ranks i d 0 (omega arith)) (rw (get_or_default ranks j d 0 h) (rw (below i (omega arith)) (rw (below j (omega arith)) rise)))

pub some_rank : (s : List (ℕ × ℕ)) (ranks : List ℕ) (r n : ℕ) → IsSpace s → length ranks ≡ length s → ((k : ℕ) → k < length s → get_or ranks k 0 ≡ space_size (take k s)) →
    IsPartitionPoint (λ x. x ≤ r) (λ x. r < x) ranks n → 1 ≤ n
some_rank s ranks r zero a e below point =
    let past = point.1 0 0 (omega arith) (omega (arith, a.0)) in
    let first = below 0 a.0 in
    omega (arith, past, first)
some_rank s ranks r (suc n) a e below point = omega arith

pub point_in : (s : List (ℕ × ℕ)) (ranks : List ℕ) (r n k : ℕ) → length ranks ≡ length s → ((j : ℕ) → j < length s → get_or ranks j 0 ≡ space_size (take j s)) →
    n ≤ length ranks → n ≡ k + 1 → IsPartitionPoint (λ x. x ≤ r) (λ x. r < x) ranks n → r < space_size s → IsPointAt s r k (get_or ranks k 0)
point_in s ranks r n k e below bound is point small =
    let i = get_or s k (0, 0) in
    let within : k < length s = omega arith in
    let start = below k within in
    let from = point.0 k 0 (omega arith) (omega arith) in
    let more = space_size-more s k (0, 0) within in
    let next : r < space_size (take (k + 1) s) = elim (cases_lt (k + 1) (length s)) [
      | inl l ↦ (let past = point.1 (k + 1) 0 (omega arith) (omega arith) in let at = below (k + 1) l in omega (arith, past, at))
      | inr m ↦ rw (take_all (k + 1) s m) small
    ] in
    let short : r - space_size (take k s) < interval_size i = omega (arith, more, next, start, from) in
    let at = point_at-in s k (r - space_size (take k s)) (0, 0) within short in
    let whole : space_size (take k s) + (r - space_size (take k s)) ≡ r = omega (arith, start, from) in
    let same = rw whole at at in
    record { from = from; to = omega (arith, short, start); is_point = rw start (sym same) }
