-- Two lists of ascending intervals, put together.
use Rattle.std.proofs.Common.{◌≡◌, ℕ, zero, suc, ◌+◌, ◌^◌, ◌<◌, ◌≤◌, max, Bool, true, false, ◌||◌, List, [], ◌∷◌, ◌++◌, length, get_or, drop, refl, sym, ◌∙◌, ap, subst, arith}
use Rattle.std.proofs.lemmas.Bool.{false≢true}
use Rattle.std.proofs.lemmas.Bool.Decides.{nat_tests}
use Rattle.std.proofs.lemmas.List.{drop_more, drop_all}
use Rattle.std.proofs.lemmas.List.Folds.{list_any-append}
use Rattle.std.proofs.Math.Bool.{or_assoc}
use Rattle.index_spaces.specs.Space.{interval_has, has_point, AscendAbove, IsSpace}
use Rattle.space_unions.specs.Ascending.{AscendTo, IsNext, Absorbs}

-- what is done and what is last has the points of the intervals before these places
pub record IsMerged (s t out : List (ℕ × ℕ)) (last : ℕ × ℕ) (a b : ℕ) : Type 0 where
  pub points : (p : ℕ) → (has_point s p || has_point t p) ≡ ((has_point out p || interval_has last p) || (has_point (drop a s) p || has_point (drop b t) p))
  pub ascending : AscendTo 0 out last.0
  pub low : last.0 ≤ last.1
  pub first : a < length s → last.0 ≤ (get_or s a (0, 0)).0
  pub second : b < length t → last.0 ≤ (get_or t b (0, 0)).0

-- INTERVALS
pub runs_up : (low : ℕ) (s : List (ℕ × ℕ)) (k : ℕ) → AscendAbove low s → k < length s → (get_or s k (0, 0)).0 ≤ (get_or s k (0, 0)).1
runs_up low [] k a h = absurd (omega arith)
runs_up low (i ∷ s) zero a h = a.1
runs_up low (i ∷ s) (suc k) a h = runs_up (i.1 + 2) s k a.3 (omega arith)

starts_above : (low : ℕ) (s : List (ℕ × ℕ)) (k : ℕ) → AscendAbove low s → k < length s → low ≤ (get_or s k (0, 0)).0
starts_above low [] k a h = absurd (omega arith)
starts_above low (i ∷ s) zero a h = a.0
starts_above low (i ∷ s) (suc k) a h =
    let later = starts_above (i.1 + 2) s k a.3 (omega arith) in
    omega (arith, later, a.0, a.1)

starts_rise : (low : ℕ) (s : List (ℕ × ℕ)) (k : ℕ) → AscendAbove low s → suc k < length s → (get_or s k (0, 0)).0 ≤ (get_or s (suc k) (0, 0)).0
starts_rise low [] k a h = absurd (omega arith)
starts_rise low (i ∷ s) zero a h =
    let later = starts_above (i.1 + 2) s 0 a.3 (omega arith) in
    omega (arith, later, a.1)
starts_rise low (i ∷ s) (suc k) a h = starts_rise (i.1 + 2) s k a.3 (omega arith)

pub ascend_push : (low : ℕ) (s : List (ℕ × ℕ)) (high : ℕ) (i : ℕ × ℕ) (next : ℕ) → AscendTo low s i.0 → i.0 ≤ i.1 → i.1 < 2 ^ 32 → i.1 + 2 ≤ next → AscendTo low (s ++ i ∷ []) next
ascend_push low [] high i next a u w n = (a, u, w, n)
ascend_push low (j ∷ s) high i next a u w n = (a.0, a.1, a.2, ascend_push (j.1 + 2) s high i next a.3 u w n)

-- POINTS
pub has_push : (s : List (ℕ × ℕ)) (i : ℕ × ℕ) (p : ℕ) → has_point (s ++ i ∷ []) p ≡ (has_point s p || interval_has i p)
has_push s i p = list_any-append (λ j. interval_has j p) s (i ∷ []) ∙ ap (λ b. has_point s p || b) (or_false (interval_has i p))
  where
    or_false : (o : Bool) → (o || false) ≡ o
    or_false true = refl
    or_false false = refl

-- an interval that meets another one or touches it, and begins no lower
pub joined_has : (i j : ℕ × ℕ) (p : ℕ) → i.0 ≤ i.1 → i.0 ≤ j.0 → j.0 ≤ i.1 + 1 → interval_has (i.0, max i.1 j.1) p ≡ (interval_has i p || interval_has j p)
joined_has i j p u l m = grind (arith, nat_tests)

-- the same of the last interval, and of one that begins later
pub after_push : (s : List (ℕ × ℕ)) (i j : ℕ × ℕ) (p : ℕ) → (has_point (s ++ i ∷ []) p || interval_has j p) ≡ ((has_point s p || interval_has i p) || interval_has j p)
after_push s i j p = ap (λ b. b || interval_has j p) (has_push s i p)

pub after_joined : (s : List (ℕ × ℕ)) (i j : ℕ × ℕ) (p : ℕ) → i.0 ≤ i.1 → i.0 ≤ j.0 → j.0 ≤ i.1 + 1 → (has_point s p || interval_has (i.0, max i.1 j.1) p) ≡ ((has_point s p || interval_has i p) || interval_has j p)
after_joined s i j p u l m = ap (λ b. has_point s p || b) (joined_has i j p u l m) ∙ sym (or_assoc (has_point s p) (interval_has i p) (interval_has j p))

-- the next interval, taken from the first list
or_taken : (w x i r u n : Bool) → w ≡ (x || ((i || r) || u)) → n ≡ (x || i) → w ≡ (n || (r || u))
or_taken w true i r u n e f = e ∙ ap (λ b. b || (r || u)) (sym f)
or_taken w false true r u n e f = e ∙ ap (λ b. b || (r || u)) (sym f)
or_taken w false false r u n e f = e ∙ ap (λ b. b || (r || u)) (sym f)

pub take_first : (s t out new : List (ℕ × ℕ)) (last now : ℕ × ℕ) (a b : ℕ) → IsSpace s → IsMerged s t out last a b → IsNext s t a b → Absorbs out last (get_or s a (0, 0)) new now → IsMerged s t new now (a + 1) b
take_first s t out new last now a b space m next step = record {
  points = λ p. or_taken (has_point s p || has_point t p) (has_point out p || interval_has last p) (interval_has (get_or s a (0, 0)) p) (has_point (drop (a + 1) s) p) (has_point (drop b t) p) (has_point new p || interval_has now p)
      (m.points p ∙ ap (λ (xs : List (ℕ × ℕ)). (has_point out p || interval_has last p) || (has_point xs p || has_point (drop b t) p)) (drop_more s a (0, 0) next.there)) (step.points p);
  ascending = step.ascending;
  low = step.low;
  first = λ below. next_starts (let e : suc a ≡ a + 1 = omega arith in e) below;
  second = λ below. let over = next.low below in omega (arith, over, step.begins);
}
  where
    next_starts : {k : ℕ} → suc a ≡ k → k < length s → now.0 ≤ (get_or s k (0, 0)).0
    next_starts {k} e below = subst (λ n. now.0 ≤ (get_or s n (0, 0)).0) e (let rise = starts_rise 0 s a space.1 (omega (arith, e, below)) in omega (arith, rise, step.begins))

or_swap : (a b : Bool) → (a || b) ≡ (b || a)
or_swap true true = refl
or_swap true false = refl
or_swap false true = refl
or_swap false false = refl

pub swapped : (s t out : List (ℕ × ℕ)) (last : ℕ × ℕ) (a b : ℕ) → IsMerged s t out last a b → IsMerged t s out last b a
swapped s t out last a b m = record {
  points = λ p. or_swap (has_point t p) (has_point s p) ∙ (m.points p ∙ ap (λ c. (has_point out p || interval_has last p) || c) (or_swap (has_point (drop a s) p) (has_point (drop b t) p)));
  ascending = m.ascending;
  low = m.low;
  first = m.second;
  second = m.first;
}

-- the first interval is open at the start
or_first : (i r u : Bool) → (i || r) || u ≡ (i || ((i || r) || u))
or_first true r u = refl
or_first false r u = refl

pub none_merged : (s t : List (ℕ × ℕ)) → IsSpace s → IsNext s t 0 0 → IsMerged s t [] (get_or s 0 (0, 0)) 0 0
none_merged s t space next = record {
  points = λ p.
      let at : has_point s p ≡ (interval_has (get_or s 0 (0, 0)) p || has_point (drop 1 s) p) = ap (λ (xs : List (ℕ × ℕ)). has_point xs p) (drop_more s 0 (0, 0) next.there) in
      subst (λ w. (w || has_point t p) ≡ (interval_has (get_or s 0 (0, 0)) p || (w || has_point t p))) (sym at)
      (or_first (interval_has (get_or s 0 (0, 0)) p) (has_point (drop 1 s) p) (has_point t p));
  ascending = omega arith;
  low = runs_up 0 s 0 space.1 next.there;
  first = λ below. omega arith;
  second = next.low;
}

-- all are merged
pub all_merged : (s t out : List (ℕ × ℕ)) (last : ℕ × ℕ) (a b : ℕ) → IsMerged s t out last a b → length s ≤ a → length t ≤ b → (p : ℕ) → has_point (out ++ last ∷ []) p ≡ (has_point s p || has_point t p)
all_merged s t out last a b m past_s past_t p = sym (m.points p
    ∙ (ap (λ (xs : List (ℕ × ℕ)). (has_point out p || interval_has last p) || (has_point xs p || has_point (drop b t) p)) (drop_all a s past_s)
    ∙ (ap (λ (xs : List (ℕ × ℕ)). (has_point out p || interval_has last p) || (false || has_point xs p)) (drop_all b t past_t)
    ∙ (or_none (has_point out p || interval_has last p) ∙ sym (has_push out last p)))))
  where
    or_none : (o : Bool) → (o || false) ≡ o
    or_none true = refl
    or_none false = refl
