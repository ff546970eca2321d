-- When seats that were split off were joined again.
use Rattle.std.proofs.Common.{◌≡◌, ℕ, [], ◌∷◌, ◌++◌, inl, inr, sym, subst, arith, ⊎_elim, Option, Some, None}
use Rattle.std.specs.Prelude.{Contains, IfSome, IfNone}
use Rattle.std.proofs.lemmas.List.Elements.{Contains-append_left, Contains-append_right, Contains-append_cases, Contains-push, Contains-push_cases}
use Rattle.run_words.specs.Answered.{IsOut, AreBack, work_numbers, work_splits}
use Rattle.run_words.specs.Words.{numbers_of, splits_of, HasAll}
use Rattle.run_words.specs.declared.seats.WordSeat.{WordSeat}
use Rattle.run_words.specs.declared.works.WordWork.{WordWork}
use Rattle.run_words.specs.Rejoined.{Rejoined, HasTaken}

no_member : (n : ℕ) → Contains {X = ℕ} [] n → ⊥
no_member n d = omega (arith, d.1)

pub rejoined_at_first : (s : WordSeat) → Rejoined s s
rejoined_at_first s = record { kept = λ n d. d; back = λ n d. inl d }

pub rejoined_further : (s t u : WordSeat) → Rejoined s t → Rejoined t u → Rejoined s u
rejoined_further s t u x y = record {
  kept = λ n d. y.kept n (x.kept n d);
  back = λ n d. ⊎_elim (λ early. ⊎_elim (λ old. inl old) (λ here. inr (y.kept n here)) (x.back n early)) (λ here. inr here) (y.back n d);
}

-- no seat was split off or joined
pub rejoined_same : (s t : WordSeat) → (numbers_of t ≡ numbers_of s) × (splits_of t ≡ splits_of s) → Rejoined s t
rejoined_same s t e = record {
  kept = λ n d. subst (λ l. Contains l n) (sym e.0) d;
  back = λ n d. inl (subst (λ l. Contains l n) e.1 d);
}

-- those that were split off were joined at once
pub rejoined_back : (s t : WordSeat) → AreBack s t → Rejoined s t
rejoined_back s t b = record {
  kept = λ n d. subst (λ l. Contains l n) (sym b.1) (Contains-append_left (numbers_of s) b.0 n d);
  back = λ n d. ⊎_elim (λ old. inl old) (λ here. inr (subst (λ l. Contains l n) (sym b.1) (Contains-append_right (numbers_of s) b.0 n here)))
      (Contains-append_cases (splits_of s) b.0 n (subst (λ l. Contains l n) b.2 d));
}

-- the seat of a work was split off, others were and were joined again, and then it was joined
pub rejoined_after : (s t u v : WordSeat) (k : WordWork) → IsOut s t k → Rejoined t u
    → (numbers_of v ≡ numbers_of u ++ work_numbers k) × (splits_of v ≡ splits_of u ++ work_splits k) → Rejoined s v
rejoined_after s t u v k o r e =
    let grown : (n : ℕ) → Contains (numbers_of u) n → Contains (numbers_of v) n = λ n d. subst (λ l. Contains l n) (sym e.0) (Contains-append_left (numbers_of u) (work_numbers k) n d) in
    let own : (n : ℕ) → o.0 ≡ n → Contains (numbers_of v) n = λ n is.
    subst (λ l. Contains l n) (sym e.0) (Contains-append_right (numbers_of u) (work_numbers k) n
    (subst (λ l. Contains l n) (sym o.3) (subst (Contains (o.0 ∷ [])) is (Contains-push [] o.0)))) in
    record {
      kept = λ n d. grown n (r.kept n (subst (λ l. Contains l n) (sym o.1) d));
      back = λ n d. ⊎_elim
          (λ early. ⊎_elim
          (λ first. ⊎_elim (λ old. inl old) (λ is. inr (own n is)) (Contains-push_cases (splits_of s) o.0 n (subst (λ l. Contains l n) o.2 first)))
          (λ here. inr (grown n here))
          (r.back n early))
          (λ late. absurd (no_member n (subst (λ l. Contains l n) o.4 late)))
          (Contains-append_cases (splits_of u) (work_splits k) n (subst (λ l. Contains l n) e.1 d));
    }

-- a seat was split off, both were driven, and it was joined
pub rejoined_both : (s t p one other last : WordSeat)
    → (n : ℕ) × (numbers_of p ≡ n ∷ []) × (splits_of p ≡ []) × (numbers_of t ≡ numbers_of s) × (splits_of t ≡ splits_of s ++ n ∷ [])
    → Rejoined t one → Rejoined p other
    → (numbers_of last ≡ numbers_of one ++ numbers_of other) × (splits_of last ≡ splits_of one ++ splits_of other) → Rejoined s last
rejoined_both s t p one other last z x y e =
    let left : (n : ℕ) → Contains (numbers_of one) n → Contains (numbers_of last) n = λ n d. subst (λ l. Contains l n) (sym e.0) (Contains-append_left (numbers_of one) (numbers_of other) n d) in
    let right : (n : ℕ) → Contains (numbers_of other) n → Contains (numbers_of last) n = λ n d. subst (λ l. Contains l n) (sym e.0) (Contains-append_right (numbers_of one) (numbers_of other) n d) in
    let own : (n : ℕ) → z.0 ≡ n → Contains (numbers_of last) n = λ n is.
    right n (y.kept n (subst (λ l. Contains l n) (sym z.1) (subst (Contains (z.0 ∷ [])) is (Contains-push [] z.0)))) in
    record {
      kept = λ n d. left n (x.kept n (subst (λ l. Contains l n) (sym z.3) d));
      back = λ n d. ⊎_elim
          (λ early. ⊎_elim
          (λ first. ⊎_elim (λ old. inl old) (λ is. inr (own n is)) (Contains-push_cases (splits_of s) z.0 n (subst (λ l. Contains l n) z.4 first)))
          (λ here. inr (left n here))
          (x.back n early))
          (λ late. ⊎_elim (λ first. absurd (no_member n (subst (λ l. Contains l n) z.2 first))) (λ here. inr (right n here)) (y.back n late))
          (Contains-append_cases (splits_of one) (splits_of other) n (subst (λ l. Contains l n) e.1 d));
    }

pub all_at_first : (s : WordSeat) → (numbers_of s ≡ 0 ∷ []) × (splits_of s ≡ []) → HasAll s
all_at_first s e = record {
  first = subst (λ l. Contains l 0) (sym e.0) (Contains-push [] 0);
  each = λ n d. absurd (no_member n (subst (λ l. Contains l n) e.1 d));
}

pub all_still : (s t : WordSeat) → HasAll s → Rejoined s t → HasAll t
all_still s t all r = record {
  first = r.kept 0 all.first;
  each = λ n d. ⊎_elim (λ old. r.kept n (all.each n old)) (λ here. here) (r.back n d);
}

-- A line was taken after seats that were split off were joined again
pub taken_further : (s t u : WordSeat) (k : WordWork) → Rejoined s t → HasTaken t u k → HasTaken s u k
taken_further s t u k r x = (x.0, rejoined_further s t x.0 r x.1, x.2)

pub taken_then : (s t u : WordSeat) (found : Option WordWork) → Rejoined s t → IfSome found (λ k. HasTaken t u k) → IfSome found (λ k. HasTaken s u k)
taken_then s t u None r x = tt
taken_then s t u (Some k) r x = taken_further s t u k r x

pub none_then : (s t u : WordSeat) (found : Option WordWork) → Rejoined s t → IfNone found (Rejoined t u) → IfNone found (Rejoined s u)
none_then s t u None r x = rejoined_further s t u r x
none_then s t u (Some k) r x = tt

-- the work of the line was put back
pub rejoined_by_work : (s t u : WordSeat) (k : WordWork) → HasTaken s t k
    → (numbers_of u ≡ numbers_of t ++ work_numbers k) × (splits_of u ≡ splits_of t ++ work_splits k) → Rejoined s u
rejoined_by_work s t u k x e = rejoined_further s x.0 u x.1 (rejoined_after x.0 t t u k x.2 (rejoined_at_first t) e)
