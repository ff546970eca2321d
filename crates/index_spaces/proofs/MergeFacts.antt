-- Two lists of ascending intervals, gone through side by side.
use Rattle.std.proofs.Common.{◌≡◌, ◌↔◌, ℕ, zero, suc, ◌+◌, ◌^◌, ◌<◌, ◌≤◌, min, max, Bool, true, false, ◌&&◌, ◌||◌, nat_le, ◌⊎◌, List, [], ◌∷◌, ◌++◌, length, get_or, drop, sym, ap, ◌∙◌, refl, inl, inr, arith}
use Rattle.std.proofs.lemmas.Bool.{cases_lt, le-leb, lt-leb, and_parts, and_from, and_right, or_cases, or_from, or_left, or_right, false≢true}
use Rattle.std.proofs.lemmas.Bool.Decides.{nat_tests}
use Rattle.std.proofs.lemmas.List.{drop_more, drop_all}
use Rattle.std.proofs.lemmas.List.Folds.{list_any-append}
use Rattle.index_spaces.specs.Space.{interval_has, has_point, space_size, rank, AscendAbove, IsSpace, Meet, IsWithin}
use Rattle.index_spaces.proofs.PointFacts.{space_size-push, space_size-cons, rank-cons, rank-at, starts_above, runs_up, has_point-at, has_point-between, interval_has-parts}

-- no point lies below what all intervals are above
pub has_point-low : (low p : ℕ) (s : List (ℕ × ℕ)) → AscendAbove low s → p < low → has_point s p ≡ false
has_point-low low p s a h = has_point-between low s p 0 a (λ j d l. absurd (omega arith)) (λ d l. let above = starts_above low s 0 d a l in omega (arith, above))

pub rest_ascends : (low : ℕ) (s : List (ℕ × ℕ)) (k : ℕ) → AscendAbove low s → k < length s → AscendAbove ((get_or s k (0, 0)).1 + 2) (drop (k + 1) s)
rest_ascends low [] k a h = absurd (omega arith)
rest_ascends low (i ∷ s) zero a h = a.3
rest_ascends low (i ∷ s) (suc k) a h = let e : suc k + 1 ≡ suc (k + 1) = omega arith in rw e (rest_ascends (i.1 + 2) s k a.3 (omega arith))

-- what two intervals share
abbrev pub overlap : ℕ × ℕ → ℕ × ℕ → ℕ × ℕ
overlap i j = (max i.0 j.0, min i.1 j.1)

pub overlap-has : (i j : ℕ × ℕ) (p : ℕ) → interval_has (overlap i j) p ≡ (interval_has i p && interval_has j p)
overlap-has i j p = grind (arith, nat_tests)

pub empty_has : (i : ℕ × ℕ) (p : ℕ) → i.1 < i.0 → interval_has i p ≡ false
empty_has i p h = grind (arith, nat_tests)

first_over : (a s b t : Bool) → (a ≡ true → b ≡ false → t ≡ true → ⊥) → ((a || s) && (b || t)) ≡ ((a && b) || (s && (b || t)))
first_over true s true t h = refl
first_over true true false true h = refl
first_over true false false true h = absurd (h refl refl refl)
first_over true true false false h = refl
first_over true false false false h = refl
first_over false s b t h = refl

and_swap : (a b : Bool) → (a && b) ≡ (b && a)
and_swap true true = refl
and_swap true false = refl
and_swap false true = refl
and_swap false false = refl

second_over : (a s b t : Bool) → (b ≡ true → a ≡ false → s ≡ true → ⊥) → ((a || s) && (b || t)) ≡ ((a && b) || ((a || s) && t))
second_over a s b t h = and_swap (a || s) (b || t) ∙ (first_over b t a s h ∙ (ap (λ x. x || (t && (a || s))) (and_swap b a) ∙ ap (λ x. (a && b) || x) (and_swap t (a || s))))

-- of two first intervals, the one that does not end last has no more to share than the overlap
pub past_first : (i j : ℕ × ℕ) (s t : List (ℕ × ℕ)) (p : ℕ) → AscendAbove (j.1 + 2) t → i.1 ≤ j.1 →
    (has_point (i ∷ s) p && has_point (j ∷ t) p) ≡ (interval_has (overlap i j) p || (has_point s p && has_point (j ∷ t) p))
past_first i j s t p a le =
    rw (overlap-has i j p) (first_over (interval_has i p) (has_point s p) (interval_has j p) (has_point t p) (λ in_i not_j in_t.
    elim (cases_lt p (j.1 + 2)) [
      | inl l ↦ false≢true (sym (has_point-low (j.1 + 2) p t a l) ∙ in_t)
      | inr m ↦ (let up = interval_has-parts i p in_i in omega (arith, up))
    ]))

pub past_second : (i j : ℕ × ℕ) (s t : List (ℕ × ℕ)) (p : ℕ) → AscendAbove (i.1 + 2) s → j.1 ≤ i.1 →
    (has_point (i ∷ s) p && has_point (j ∷ t) p) ≡ (interval_has (overlap i j) p || (has_point (i ∷ s) p && has_point t p))
past_second i j s t p a le =
    rw (overlap-has i j p) (second_over (interval_has i p) (has_point s p) (interval_has j p) (has_point t p) (λ in_j not_i in_s.
    elim (cases_lt p (i.1 + 2)) [
      | inl l ↦ false≢true (sym (has_point-low (i.1 + 2) p s a l) ∙ in_s)
      | inr m ↦ (let up = interval_has-parts j p in_j in omega (arith, up))
    ]))

-- the overlap of two intervals at their places
abbrev pub shared_at : List (ℕ × ℕ) → List (ℕ × ℕ) → ℕ → ℕ → ℕ × ℕ
shared_at s t a b = overlap (get_or s a (0, 0)) (get_or t b (0, 0))

-- the points that two lists share from these places on
abbrev pub share_from : List (ℕ × ℕ) → List (ℕ × ℕ) → ℕ → ℕ → ℕ → Bool
share_from s t a b p = has_point (drop a s) p && has_point (drop b t) p

pub share-past_first : (s t : List (ℕ × ℕ)) (a b p : ℕ) → AscendAbove 0 t → a < length s → b < length t → (get_or s a (0, 0)).1 ≤ (get_or t b (0, 0)).1 →
    share_from s t a b p ≡ (interval_has (shared_at s t a b) p || share_from s t (a + 1) b p)
share-past_first s t a b p up la lb le =
    rw (drop_more s a (0, 0) la, drop_more t b (0, 0) lb)
    (past_first (get_or s a (0, 0)) (get_or t b (0, 0)) (drop (a + 1) s) (drop (b + 1) t) p (rest_ascends 0 t b up lb) le)

pub share-past_second : (s t : List (ℕ × ℕ)) (a b p : ℕ) → AscendAbove 0 s → a < length s → b < length t → (get_or t b (0, 0)).1 ≤ (get_or s a (0, 0)).1 →
    share_from s t a b p ≡ (interval_has (shared_at s t a b) p || share_from s t a (b + 1) p)
share-past_second s t a b p up la lb le =
    rw (drop_more s a (0, 0) la, drop_more t b (0, 0) lb)
    (past_second (get_or s a (0, 0)) (get_or t b (0, 0)) (drop (a + 1) s) (drop (b + 1) t) p (rest_ascends 0 s a up la) le)

-- more points lie below a higher number, and no more than all
pub rank_rises : (s : List (ℕ × ℕ)) (p q : ℕ) → p ≤ q → rank s p ≤ rank s q
rank_rises [] p q h = omega arith
rank_rises (i ∷ s) p q h =
    let rest = rank_rises s p q h in
    let one = rank-cons i s p in
    let other = rank-cons i s q in
    omega (arith, rest, one, other)

pub rank_bound : (s : List (ℕ × ℕ)) (p : ℕ) → rank s p ≤ space_size s
rank_bound [] p = omega arith
rank_bound (i ∷ s) p =
    let rest = rank_bound s p in
    let one = rank-cons i s p in
    let size = space_size-cons i s in
    omega (arith, rest, one, size)

-- intervals that ascend from low, and end two below high
abbrev pub AscendTo : ℕ → List (ℕ × ℕ) → ℕ → Type 0
AscendTo low [] high = low ≤ high
AscendTo low (i ∷ s) high = (low ≤ i.0) × (i.0 ≤ i.1) × (i.1 < 2 ^ 32) × AscendTo (i.1 + 2) s high

pub AscendTo-weaker : (low : ℕ) (s : List (ℕ × ℕ)) (high higher : ℕ) → AscendTo low s high → high ≤ higher → AscendTo low s higher
AscendTo-weaker low [] high higher a h = let b : low ≤ high = a in omega arith
AscendTo-weaker low (i ∷ s) high higher a h = (a.0, a.1, a.2, AscendTo-weaker (i.1 + 2) s high higher a.3 h)

pub AscendTo-push : (low : ℕ) (s : List (ℕ × ℕ)) (high : ℕ) (i : ℕ × ℕ) → AscendTo low s high → high ≤ i.0 → i.0 ≤ i.1 → i.1 < 2 ^ 32 → AscendTo low (s ++ i ∷ []) (i.1 + 2)
AscendTo-push low [] high i a h u w = (let b : low ≤ high = a in omega arith, u, w, omega arith)
AscendTo-push low (j ∷ s) high i a h u w = (a.0, a.1, a.2, AscendTo-push (j.1 + 2) s high i a.3 h u w)

pub AscendAbove-from : (low : ℕ) (s : List (ℕ × ℕ)) (high : ℕ) → AscendTo low s high → AscendAbove low s
AscendAbove-from low [] high a = tt
AscendAbove-from low (i ∷ s) high a = (a.0, a.1, a.2, AscendAbove-from (i.1 + 2) s high a.3)

-- where the first interval begins, or a number above all ends
abbrev pub next_start : List (ℕ × ℕ) → ℕ
next_start [] = 2 ^ 32 + 1
next_start (i ∷ s) = i.0

next_start_above : (low : ℕ) (s : List (ℕ × ℕ)) → AscendAbove low s → low ≤ 2 ^ 32 + 1 → low ≤ next_start s
next_start_above low [] a h = h
next_start_above low (i ∷ s) a h = a.0

pub next_start-at : (s : List (ℕ × ℕ)) (k : ℕ) → k < length s → next_start (drop k s) ≡ (get_or s k (0, 0)).0
next_start-at s k h = ap next_start (drop_more s k (0, 0) h)

pub next_start-later : (s : List (ℕ × ℕ)) (k : ℕ) → AscendAbove 0 s → k < length s → (get_or s k (0, 0)).1 + 2 ≤ next_start (drop (k + 1) s)
next_start-later s k a h =
    let up = runs_up 0 s k (0, 0) a h in
    next_start_above _ (drop (k + 1) s) (rest_ascends 0 s k a h) (omega (arith, up))

-- where the next overlap begins, at the lowest
abbrev pub next_overlap : List (ℕ × ℕ) → List (ℕ × ℕ) → ℕ → ℕ → ℕ
next_overlap s t a b = max (next_start (drop a s)) (next_start (drop b t))

-- what is shared so far, up to high, where a and b intervals are done with
pub record IsShared (s t out : List (ℕ × ℕ)) (a b high : ℕ) : Type 0 where
  pub points : (p : ℕ) → (has_point s p && has_point t p) ≡ (has_point out p || share_from s t a b p)
  pub ascending : AscendTo 0 out high
  pub few : space_size out ≤ rank s high

pub IsShared-none : (s t : List (ℕ × ℕ)) → IsShared s t [] 0 0 (next_overlap s t 0 0)
IsShared-none s t = record { points = λ p. refl; ascending = omega arith; few = omega arith }

absorbed : (o x f : Bool) → (x ≡ true → f ≡ true) → (o || f) ≡ ((o || (x || false)) || f)
absorbed true x f h = refl
absorbed false true f h = h refl
absorbed false false f h = refl

already : (o x f : Bool) → (x ≡ true → o ≡ true) → (o || (x || f)) ≡ (o || f)
already true x f h = refl
already false true f h = absurd (false≢true (h refl))
already false false f h = refl

pub or_false : (o : Bool) → (o || false) ≡ o
or_false true = refl
or_false false = refl

-- above what the intervals at a and b share
abbrev pub above_shared : List (ℕ × ℕ) → List (ℕ × ℕ) → ℕ → ℕ → ℕ
above_shared s t a b = max (shared_at s t a b).0 ((shared_at s t a b).1 + 2)

-- what is shared so far, with what the intervals at a and b share
pub record IsTaken (s t out : List (ℕ × ℕ)) (a b : ℕ) : Type 0 where
  pub points : (p : ℕ) → (has_point s p && has_point t p) ≡ (has_point out p || share_from s t a b p)
  pub taken : (p : ℕ) → interval_has (shared_at s t a b) p ≡ true → has_point out p ≡ true
  pub ascending : AscendTo 0 out (above_shared s t a b)
  pub few : space_size out ≤ rank s (above_shared s t a b)

has_point-push : (s : List (ℕ × ℕ)) (i : ℕ × ℕ) (p : ℕ) → has_point (s ++ i ∷ []) p ≡ (has_point s p || (interval_has i p || false))
has_point-push s i p = list_any-append (λ j. interval_has j p) s (i ∷ [])

-- what the two intervals share is shared
shared_shares : (s t : List (ℕ × ℕ)) (a b p : ℕ) → a < length s → b < length t → interval_has (shared_at s t a b) p ≡ true → share_from s t a b p ≡ true
shared_shares s t a b p la lb h =
    let i = get_or s a (0, 0) in
    let j = get_or t b (0, 0) in
    let both = and_parts (interval_has i p) (interval_has j p) (sym (overlap-has i j p) ∙ h) in
    rw (drop_more s a (0, 0) la, drop_more t b (0, 0) lb)
    (and_from (has_point (i ∷ drop (a + 1) s) p) (has_point (j ∷ drop (b + 1) t) p) (or_left (interval_has i p) (has_point (drop (a + 1) s) p) both.0) (or_left (interval_has j p) (has_point (drop (b + 1) t) p) both.1))

next_overlap-at : (s t : List (ℕ × ℕ)) (a b : ℕ) → a < length s → b < length t → next_overlap s t a b ≡ (shared_at s t a b).0
next_overlap-at s t a b la lb = rw (next_start-at s a la, next_start-at t b lb)

pub taken_push : (s t out : List (ℕ × ℕ)) (a b : ℕ) → IsSpace s → a < length s → b < length t → (shared_at s t a b).0 ≤ (shared_at s t a b).1 →
    IsShared s t out a b (next_overlap s t a b) → IsTaken s t (out ++ shared_at s t a b ∷ []) a b
taken_push s t out a b up la lb le h =
    let x = shared_at s t a b in
    let start = next_overlap-at s t a b la lb in
    let bounds = runs_up 0 s a (0, 0) up.1 la in
    let size = space_size-push out x in
    let at_start = rank-at 0 x.0 s a (0, 0) up.1 la (omega arith) (omega arith) in
    let at_end = rank-at 0 (x.1 + 1) s a (0, 0) up.1 la (omega arith) (omega arith) in
    let rise = rank_rises s (x.1 + 1) (above_shared s t a b) (omega arith) in
    let before = rw start at h.few in
    record {
      points = λ p. h.points p ∙ absorbed (has_point out p) (interval_has x p) (share_from s t a b p) (shared_shares s t a b p la lb) ∙ ap (λ o. o || share_from s t a b p) (sym (has_point-push out x p));
      taken = λ p e. has_point-push out x p ∙ or_right _ _ (or_left _ _ e);
      ascending = AscendTo-weaker 0 (out ++ x ∷ []) (x.1 + 2) (above_shared s t a b) (AscendTo-push 0 out (next_overlap s t a b) x h.ascending (omega (arith, start)) le (omega (arith, bounds))) (omega arith);
      few = omega (arith, size, at_start, at_end, rise, before);
    }

pub taken_skip : (s t out : List (ℕ × ℕ)) (a b : ℕ) → a < length s → b < length t → (shared_at s t a b).1 < (shared_at s t a b).0 →
    IsShared s t out a b (next_overlap s t a b) → IsTaken s t out a b
taken_skip s t out a b la lb lt h =
    let start = next_overlap-at s t a b la lb in
    let rise = rank_rises s (next_overlap s t a b) (above_shared s t a b) (omega (arith, start)) in
    record {
      points = h.points;
      taken = λ p e. absurd (false≢true (sym (empty_has (shared_at s t a b) p lt) ∙ e));
      ascending = AscendTo-weaker 0 out (next_overlap s t a b) (above_shared s t a b) h.ascending (omega (arith, start));
      few = omega (arith, rise, h.few);
    }

pub shared_first : (s t out : List (ℕ × ℕ)) (a b : ℕ) → IsSpace s → IsSpace t → a < length s → b < length t → (get_or s a (0, 0)).1 ≤ (get_or t b (0, 0)).1 →
    IsTaken s t out a b → IsShared s t out (a + 1) b (next_overlap s t (a + 1) b)
shared_first s t out a b up ut la lb le h =
    let later = next_start-later s a up.1 la in
    let start = next_start-at t b lb in
    let bounds = runs_up 0 s a (0, 0) up.1 la in
    let above : above_shared s t a b ≤ next_overlap s t (a + 1) b = omega (arith, later, start, bounds) in
    let rise = rank_rises s _ _ above in
    record {
      points = λ p. h.points p ∙ ap (λ f. has_point out p || f) (share-past_first s t a b p ut.1 la lb le) ∙ already (has_point out p) (interval_has (shared_at s t a b) p) (share_from s t (a + 1) b p) (h.taken p);
      ascending = AscendTo-weaker 0 out (above_shared s t a b) (next_overlap s t (a + 1) b) h.ascending above;
      few = omega (arith, rise, h.few);
    }

pub shared_second : (s t out : List (ℕ × ℕ)) (a b : ℕ) → IsSpace s → IsSpace t → a < length s → b < length t → (get_or t b (0, 0)).1 ≤ (get_or s a (0, 0)).1 →
    IsTaken s t out a b → IsShared s t out a (b + 1) (next_overlap s t a (b + 1))
shared_second s t out a b up ut la lb le h =
    let later = next_start-later t b ut.1 lb in
    let start = next_start-at s a la in
    let bounds = runs_up 0 t b (0, 0) ut.1 lb in
    let above : above_shared s t a b ≤ next_overlap s t a (b + 1) = omega (arith, later, start, bounds) in
    let rise = rank_rises s _ _ above in
    record {
      points = λ p. h.points p ∙ ap (λ f. has_point out p || f) (share-past_second s t a b p up.1 la lb le) ∙ already (has_point out p) (interval_has (shared_at s t a b) p) (share_from s t a (b + 1) p) (h.taken p);
      ascending = AscendTo-weaker 0 out (above_shared s t a b) (next_overlap s t a (b + 1)) h.ascending above;
      few = omega (arith, rise, h.few);
    }

-- from places on, two lists share nothing where one of them is over
pub share_over : (s t : List (ℕ × ℕ)) (a b p : ℕ) → (length s ≤ a) ⊎ (length t ≤ b) → share_from s t a b p ≡ false
share_over s t a b p (inl h) = ap (λ r. has_point r p && has_point (drop b t) p) (drop_all a s h)
share_over s t a b p (inr h) = and_right (has_point (drop a s) p) (has_point (drop b t) p) (ap (λ r. has_point r p) (drop_all b t h))

pub shared_points : (s t out : List (ℕ × ℕ)) (a b high p : ℕ) → (length s ≤ a) ⊎ (length t ≤ b) → IsShared s t out a b high → has_point out p ≡ (has_point s p && has_point t p)
shared_points s t out a b high p over h = sym (h.points p ∙ ap (λ f. has_point out p || f) (share_over s t a b p over) ∙ or_false (has_point out p))

-- a point of the one list that the other has
pub Meet-at : (s t : List (ℕ × ℕ)) (a b : ℕ) → a < length s → b < length t → (shared_at s t a b).0 ≤ (shared_at s t a b).1 → Meet s t
Meet-at s t a b la lb le =
    let p = (shared_at s t a b).0 in
    (p, has_point-at s p a (0, 0) la (omega arith) (omega arith), has_point-at t p b (0, 0) lb (omega arith) (omega arith))

-- two lists with no point that both have
pub Meet-none : (s t : List (ℕ × ℕ)) → ((p : ℕ) → (has_point s p && has_point t p) ≡ false) → ¬ (Meet s t)
Meet-none s t none m = false≢true (sym (none m.0) ∙ and_from (has_point s m.0) (has_point t m.0) m.1 m.2)

-- what lies within intervals lies within one interval more
within_step : (i j : ℕ × ℕ) (s t : List (ℕ × ℕ)) → IsWithin (i ∷ s) t → IsWithin (i ∷ s) (j ∷ t)
within_step i j s t h p m = or_right (interval_has j p) (has_point t p) (h p m)

-- an interval of the outer list that ends below the inner list has none of its points
pub within-past : (i j : ℕ × ℕ) (low : ℕ) (s t : List (ℕ × ℕ)) → AscendAbove low (i ∷ s) → j.1 < i.0 → IsWithin (i ∷ s) (j ∷ t) ↔ IsWithin (i ∷ s) t
within-past i j low s t a lt = (
  λ h p m. elim (or_cases (interval_has j p) (has_point t p) (h p m)) [
    | inl e ↦ (let parts = interval_has-parts j p e in absurd (false≢true (sym (has_point-low i.0 p (i ∷ s) (omega arith, a.1, a.2, a.3) (omega (arith, parts))) ∙ m)))
    | inr e ↦ e
  ],
  λ h. within_step i j s t h,
)

-- an interval that lies in the first of the outer list can be left out
pub within-covered : (i j : ℕ × ℕ) (s t : List (ℕ × ℕ)) → j.0 ≤ i.0 → i.1 ≤ j.1 → IsWithin (i ∷ s) (j ∷ t) ↔ IsWithin s (j ∷ t)
within-covered i j s t from to = (
  λ h p m. h p (or_right (interval_has i p) (has_point s p) m),
  λ h p m. elim (or_cases (interval_has i p) (has_point s p) m) [
    | inl e ↦ (let parts = interval_has-parts i p e in or_left (interval_has j p) (has_point t p) (and_from (nat_le j.0 p) (nat_le p j.1) (le-leb j.0 p (omega (arith, parts))) (le-leb p j.1 (omega (arith, parts)))))
    | inr e ↦ h p e
  ],
)

-- an interval that begins below the outer list is not within it
pub within-early : (i j : ℕ × ℕ) (low : ℕ) (s t : List (ℕ × ℕ)) → AscendAbove low (j ∷ t) → i.0 ≤ i.1 → i.0 < j.0 → ¬ (IsWithin (i ∷ s) (j ∷ t))
within-early i j low s t a up lt h =
    false≢true (sym (has_point-low j.0 i.0 (j ∷ t) (omega arith, a.1, a.2, a.3) lt) ∙ h i.0 (has_point-at (i ∷ s) i.0 0 (0, 0) (omega arith) (omega arith) up))

-- an interval that goes on past the end of one that it meets is not within the list
pub within-long : (i j : ℕ × ℕ) (low : ℕ) (s t : List (ℕ × ℕ)) → AscendAbove low (j ∷ t) → i.0 ≤ j.1 → j.1 < i.1 → ¬ (IsWithin (i ∷ s) (j ∷ t))
within-long i j low s t a from lt h =
    let p = j.1 + 1 in
    let not_first : interval_has j p ≡ false = and_right (nat_le j.0 p) (nat_le p j.1) (lt-leb p j.1 (omega arith)) in
    let not_later = has_point-low (j.1 + 2) p t a.3 (omega arith) in
    let has = h p (has_point-at (i ∷ s) p 0 (0, 0) (omega arith) (omega arith) (omega arith)) in
    false≢true (sym (or_from (interval_has j p) (has_point t p) not_first not_later) ∙ has)

-- the same, from places on
pub within-past_at : (s t : List (ℕ × ℕ)) (a b : ℕ) → IsSpace s → a < length s → b < length t → (get_or t b (0, 0)).1 < (get_or s a (0, 0)).0 →
    IsWithin (drop a s) (drop b t) ↔ IsWithin (drop a s) (drop (b + 1) t)
within-past_at s t a b up la lb lt =
    rw (drop_more s a (0, 0) la, drop_more t b (0, 0) lb)
    (within-past (get_or s a (0, 0)) (get_or t b (0, 0)) 0 (drop (a + 1) s) (drop (b + 1) t) (let bounds = runs_up 0 s a (0, 0) up.1 la in (omega arith, bounds.0, bounds.1, rest_ascends 0 s a up.1 la)) lt)

pub within-covered_at : (s t : List (ℕ × ℕ)) (a b : ℕ) → a < length s → b < length t → (get_or t b (0, 0)).0 ≤ (get_or s a (0, 0)).0 → (get_or s a (0, 0)).1 ≤ (get_or t b (0, 0)).1 →
    IsWithin (drop a s) (drop b t) ↔ IsWithin (drop (a + 1) s) (drop b t)
within-covered_at s t a b la lb from to =
    rw (drop_more s a (0, 0) la, drop_more t b (0, 0) lb)
    (within-covered (get_or s a (0, 0)) (get_or t b (0, 0)) (drop (a + 1) s) (drop (b + 1) t) from to)

pub within-early_at : (s t : List (ℕ × ℕ)) (a b : ℕ) → IsSpace s → IsSpace t → a < length s → b < length t → (get_or s a (0, 0)).0 < (get_or t b (0, 0)).0 → ¬ (IsWithin (drop a s) (drop b t))
within-early_at s t a b up ut la lb lt =
    rw (drop_more s a (0, 0) la, drop_more t b (0, 0) lb)
    (let bounds = runs_up 0 s a (0, 0) up.1 la in
    let others = runs_up 0 t b (0, 0) ut.1 lb in
    within-early (get_or s a (0, 0)) (get_or t b (0, 0)) 0 (drop (a + 1) s) (drop (b + 1) t) (omega arith, others.0, others.1, rest_ascends 0 t b ut.1 lb) bounds.0 lt)

pub within-long_at : (s t : List (ℕ × ℕ)) (a b : ℕ) → IsSpace t → a < length s → b < length t → (get_or s a (0, 0)).0 ≤ (get_or t b (0, 0)).1 → (get_or t b (0, 0)).1 < (get_or s a (0, 0)).1 →
    ¬ (IsWithin (drop a s) (drop b t))
within-long_at s t a b ut la lb from lt =
    rw (drop_more s a (0, 0) la, drop_more t b (0, 0) lb)
    (let others = runs_up 0 t b (0, 0) ut.1 lb in
    within-long (get_or s a (0, 0)) (get_or t b (0, 0)) 0 (drop (a + 1) s) (drop (b + 1) t) (omega arith, others.0, others.1, rest_ascends 0 t b ut.1 lb) from lt)

-- no intervals are within any
pub within-over : (s t : List (ℕ × ℕ)) (a b : ℕ) → length s ≤ a → IsWithin (drop a s) (drop b t)
within-over s t a b h p m = absurd (false≢true (sym (ap (λ r. has_point r p) (drop_all a s h)) ∙ m))

-- an interval is not within none
pub within-none : (s t : List (ℕ × ℕ)) (a b : ℕ) → IsSpace s → a < length s → length t ≤ b → ¬ (IsWithin (drop a s) (drop b t))
within-none s t a b up la over h =
    let i = get_or s a (0, 0) in
    let bounds = runs_up 0 s a (0, 0) up.1 la in
    let has : has_point (drop a s) i.0 ≡ true = rw (drop_more s a (0, 0) la) (has_point-at (i ∷ drop (a + 1) s) i.0 0 (0, 0) (omega arith) (omega arith) bounds.0) in
    false≢true (sym (ap (λ r. has_point r i.0) (drop_all b t over)) ∙ h i.0 has)

-- places whose intervals share nothing are passed
pub meet_first : (s t : List (ℕ × ℕ)) (a b p : ℕ) (all : Bool) → IsSpace t → a < length s → b < length t → (get_or s a (0, 0)).1 ≤ (get_or t b (0, 0)).1 → (shared_at s t a b).1 < (shared_at s t a b).0 →
    all ≡ share_from s t a b p → all ≡ share_from s t (a + 1) b p
meet_first s t a b p all ut la lb le apart e =
    e ∙ share-past_first s t a b p ut.1 la lb le ∙ ap (λ x. x || share_from s t (a + 1) b p) (empty_has (shared_at s t a b) p apart)

pub meet_second : (s t : List (ℕ × ℕ)) (a b p : ℕ) (all : Bool) → IsSpace s → a < length s → b < length t → (get_or t b (0, 0)).1 ≤ (get_or s a (0, 0)).1 → (shared_at s t a b).1 < (shared_at s t a b).0 →
    all ≡ share_from s t a b p → all ≡ share_from s t a (b + 1) p
meet_second s t a b p all up la lb le apart e =
    e ∙ share-past_second s t a b p up.1 la lb le ∙ ap (λ x. x || share_from s t a (b + 1) p) (empty_has (shared_at s t a b) p apart)

pub iff_trans : {A B C : Type 0} → A ↔ B → B ↔ C → A ↔ C
iff_trans f g = (λ a. g.0 (f.0 a), λ c. f.1 (g.1 c))

-- what stands after a step that takes the overlap, where there is one
pub taken_step : (s t before out : List (ℕ × ℕ)) (a b low high : ℕ) → IsSpace s → a < length s → b < length t → IsShared s t before a b (next_overlap s t a b) →
    low ≡ (shared_at s t a b).0 → high ≡ (shared_at s t a b).1 → ((low ≤ high) × (out ≡ before ++ (low, high) ∷ [])) ⊎ ((high < low) × (out ≡ before)) → IsTaken s t out a b
taken_step s t before out a b low high up la lb h e f (inl w) = rw (w.1, e, f) (taken_push s t before a b up la lb (omega (arith, w.0, e, f)) h)
taken_step s t before out a b low high up la lb h e f (inr w) = rw w.1 (taken_skip s t before a b la lb (omega (arith, w.0, e, f)) h)

-- intervals of what two lists share show that they meet
pub Meet-from_shared : (s t out : List (ℕ × ℕ)) → 0 < length out → AscendAbove 0 out → ((p : ℕ) → has_point out p ≡ (has_point s p && has_point t p)) → Meet s t
Meet-from_shared s t out some up same =
    let p = (get_or out 0 (0, 0)).0 in
    let bounds = runs_up 0 out 0 (0, 0) up some in
    let both = and_parts (has_point s p) (has_point t p) (sym (same p) ∙ has_point-at out p 0 (0, 0) some (omega arith) bounds.0) in
    (p, both.0, both.1)
