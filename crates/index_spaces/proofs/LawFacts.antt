-- Points, their ranks, and the intervals that they make.
use Rattle.std.proofs.Common.{◌≡◌, ℕ, suc, ◌+◌, ◌-◌, ◌^◌, ◌<◌, ◌≤◌, true, false, ◌||◌, nat_le, List, [], ◌∷◌, length, get_or, take, sym, ap, ◌∙◌, refl, inl, inr, arith}
use Rattle.std.proofs.lemmas.Bool.{cases_lt, cases_order, or_cases, and_right, lt-leb, false≢true}
use Rattle.std.proofs.lemmas.List.{get_or_default}
use Rattle.index_spaces.specs.Space.{interval_has, has_point, points, space_size, rank, point_at, AscendAbove, IsSpace, IsWithin}
use Rattle.index_spaces.specs.Laws.{PointsAreListed, PointsAscend, PointOfRank, RankOfPoint, SamePointsSameIntervals}
use Rattle.index_spaces.proofs.PointFacts.{interval_size, space_size-cons, size_so_far, interval_has-parts, has_point-at, has_point-between, point_at-in, rank-at, runs_up}
use Rattle.index_spaces.proofs.MergeFacts.{rank_rises, has_point-low, within-early, within-long}

-- the interval of the point of a rank, and how far into it the point lies
record IsPlace (s : List (ℕ × ℕ)) (r k j : ℕ) : Type 0 where
  within : k < length s
  short : j < interval_size (get_or s k (0, 0))
  sum : r ≡ space_size (take k s) + j

rank_place : (s : List (ℕ × ℕ)) (r : ℕ) → r < space_size s → (k : ℕ) × (j : ℕ) × IsPlace s r k j
rank_place [] r h = absurd (omega arith)
rank_place (i ∷ s) r h =
    let size = space_size-cons i s in
    elim (cases_lt r (interval_size i)) [
      | inl l ↦ (0, r, record { within = omega arith; short = l; sum = omega arith })
      | inr m ↦ (
          let rest = rank_place s (r - interval_size i) (omega (arith, size)) in
          let before = space_size-cons i (take rest.0 s) in
          (suc rest.0, rest.1, record { within = omega (arith, rest.2.within); short = rest.2.short; sum = omega (arith, rest.2.sum, before) })
          )
    ]

-- the interval that has a point
pub interval_place : (s : List (ℕ × ℕ)) (p : ℕ) → has_point s p ≡ true → (k : ℕ) × (k < length s) × (interval_has (get_or s k (0, 0)) p ≡ true)
interval_place [] p h = absurd (false≢true h)
interval_place (i ∷ s) p h =
    elim (or_cases (interval_has i p) (has_point s p) h) [
      | inl e ↦ (0, omega arith, e)
      | inr e ↦ (let rest = interval_place s p e in (suc rest.0, omega (arith, rest.1), rest.2))
    ]

-- the point of a rank is in an interval
point_has : (s : List (ℕ × ℕ)) (r : ℕ) → r < space_size s → has_point s (point_at s r) ≡ true
point_has s r h =
    let place = rank_place s r h in
    let k = place.0 in
    let j = place.1 in
    let is = place.2 in
    let at : point_at s r ≡ (get_or s k (0, 0)).0 + j = ap (point_at s) is.sum ∙ point_at-in s k j (0, 0) is.within is.short in
    rw at (has_point-at s _ k (0, 0) is.within (omega arith) (omega (arith, is.short)))

pub rank_of_point : RankOfPoint
rank_of_point s r a h =
    let place = rank_place s r h in
    let k = place.0 in
    let j = place.1 in
    let is = place.2 in
    let at : point_at s r ≡ (get_or s k (0, 0)).0 + j = ap (point_at s) is.sum ∙ point_at-in s k j (0, 0) is.within is.short in
    let counted = rank-at 0 ((get_or s k (0, 0)).0 + j) s k (0, 0) a.1 is.within (omega arith) (omega (arith, is.short)) in
    (point_has s r h, rw at (omega (arith, counted, is.sum)))

-- a point stands in the list after the points of the intervals before, and those before it in its own
point_place : (s : List (ℕ × ℕ)) (p : ℕ) → has_point s p ≡ true → (r : ℕ) × (r < space_size s) × (point_at s r ≡ p) × (IsSpace s → rank s p ≡ r)
point_place s p h =
    let place = interval_place s p h in
    let k = place.0 in
    let i = get_or s k (0, 0) in
    let parts = interval_has-parts i p place.2 in
    let bound = size_so_far s k place.1 in
    let at = point_at-in s k (p - i.0) (0, 0) place.1 (omega (arith, parts)) in (
      space_size (take k s) + (p - i.0),
      omega (arith, bound, parts),
      omega (arith, at, parts),
      λ a. rank-at 0 p s k (0, 0) a.1 place.1 parts.0 (omega (arith, parts)),
    )

pub point_of_rank : PointOfRank
point_of_rank s p a h = let place = point_place s p h in rw (place.3 a) (place.1, place.2)

pub points_are_listed : PointsAreListed
points_are_listed s p = (
  λ c. let e = get_or_default (points s) c.0 0 p c.1 ∙ c.2 in rw e at (point_has s c.0 c.1),
  λ h. let place = point_place s p h in (place.0, place.1, get_or_default (points s) place.0 p 0 place.1 ∙ place.2),
)

pub points_ascend : PointsAscend
points_ascend s a k h =
    elim (cases_lt (point_at s k) (point_at s (k + 1))) [
      | inl l ↦ l
      | inr m ↦ (
          let one = (rank_of_point s k a (omega arith)).1 in
          let next = (rank_of_point s (k + 1) a h).1 in
          let rise = rank_rises s (point_at s (k + 1)) (point_at s k) m in
          absurd (omega (arith, one, next, rise))
          )
    ]

-- of two lists of ascending intervals with the same points, the first intervals are the same
first_same : (i j : ℕ × ℕ) (low high : ℕ) (s t : List (ℕ × ℕ)) → AscendAbove low (i ∷ s) → AscendAbove high (j ∷ t) → IsWithin (i ∷ s) (j ∷ t) → IsWithin (j ∷ t) (i ∷ s) → (i.0 ≡ j.0) × (i.1 ≡ j.1)
first_same i j low high s t a b into back =
    let starts : i.0 ≡ j.0 = elim (cases_order i.0 j.0) [
      | inl e ↦ e
      | inr o ↦ elim o [ inl l ↦ absurd (within-early i j high s t b a.1 l into) | inr l ↦ absurd (within-early j i low t s a b.1 l back) ]
    ] in
    let up : i.0 ≤ i.1 = a.1 in
    let other : j.0 ≤ j.1 = b.1 in
    let ends : i.1 ≡ j.1 = elim (cases_order i.1 j.1) [
      | inl e ↦ e
      | inr o ↦ elim o [ inl l ↦ absurd (within-long j i low t s a (omega arith) l back) | inr l ↦ absurd (within-long i j high s t b (omega arith) l into) ]
    ] in
    (starts, ends)

-- after a first interval, its list has the points from two above its end on
rest_has : (i : ℕ × ℕ) (s : List (ℕ × ℕ)) (p : ℕ) → i.1 + 2 ≤ p → has_point (i ∷ s) p ≡ has_point s p
rest_has i s p h = ap (λ b. b || has_point s p) (and_right (nat_le i.0 p) (nat_le p i.1) (lt-leb p i.1 (omega arith)))

rest_same : (i j : ℕ × ℕ) (s t : List (ℕ × ℕ)) (p : ℕ) → AscendAbove (i.1 + 2) s → AscendAbove (j.1 + 2) t → i.1 ≡ j.1 → has_point (i ∷ s) p ≡ has_point (j ∷ t) p → has_point s p ≡ has_point t p
rest_same i j s t p a b e same =
    elim (cases_lt p (i.1 + 2)) [
      | inl l ↦ has_point-low (i.1 + 2) p s a l ∙ sym (has_point-low (j.1 + 2) p t b (omega arith))
      | inr m ↦ sym (rest_has i s p m) ∙ same ∙ rest_has j t p (omega arith)
    ]

pair_same : (i j : ℕ × ℕ) → i.0 ≡ j.0 → i.1 ≡ j.1 → i ≡ j
pair_same i j e f = ap (λ n. (n, i.1)) e ∙ ap (λ n. (j.0, n)) f

-- lists of ascending intervals with the same points are the same
same_intervals : (low high : ℕ) (s t : List (ℕ × ℕ)) → AscendAbove low s → AscendAbove high t → ((p : ℕ) → has_point s p ≡ has_point t p) → s ≡ t
same_intervals low high [] [] a b same = refl
same_intervals low high [] (j ∷ t) a b same = absurd (false≢true (same j.0 ∙ has_point-at (j ∷ t) j.0 0 (0, 0) (omega arith) (omega arith) b.1))
same_intervals low high (i ∷ s) [] a b same = absurd (false≢true (sym (same i.0) ∙ has_point-at (i ∷ s) i.0 0 (0, 0) (omega arith) (omega arith) a.1))
same_intervals low high (i ∷ s) (j ∷ t) a b same =
    let first = first_same i j low high s t a b (λ p m. sym (same p) ∙ m) (λ p m. same p ∙ m) in
    let rest = same_intervals (i.1 + 2) (j.1 + 2) s t a.3 b.3 (λ p. rest_same i j s t p a.3 b.3 first.1 (same p)) in
    ap (λ x. x ∷ s) (pair_same i j first.0 first.1) ∙ ap (λ r. j ∷ r) rest

-- no number of more than 32 bits is a point
has_point-high : (s : List (ℕ × ℕ)) (p : ℕ) → AscendAbove 0 s → 2 ^ 32 ≤ p → has_point s p ≡ false
has_point-high s p a h =
    has_point-between 0 s p (length s) a (λ k d l. let up = runs_up 0 s k d a l in omega (arith, up)) (λ d l. absurd (omega arith))

pub same_points : SamePointsSameIntervals
same_points s t a b same =
    same_intervals 0 0 s t a.1 b.1 (λ p. elim (cases_lt p (2 ^ 32)) [ inl l ↦ same p l | inr m ↦ has_point-high s p a.1 m ∙ sym (has_point-high t p b.1 m) ])
