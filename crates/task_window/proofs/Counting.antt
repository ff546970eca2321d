-- How many numbers below a bound pass a test.
use Rattle.std.proofs.Common.{◌≡◌, ℕ, zero, suc, ◌+◌, ◌<◌, ◌≤◌, Bool, true, false, cond, inl, inr, refl, ap, arith}
use Rattle.std.proofs.lemmas.Bool.{cases_Bool}
use Rattle.basics.specs.Lists.{count_below}
use Rattle.basics.proofs.ListFacts.{fewer_below, count_below-max}

abbrev one_if : Bool → ℕ
one_if b = cond b 1 0

-- tests that agree below the bound
pub count_same : (t u : ℕ → Bool) (n : ℕ) → ((k : ℕ) → k < n → t k ≡ u k) → count_below t n ≡ count_below u n
count_same t u zero h = refl
count_same t u (suc n) h =
    let here : one_if (t n) ≡ one_if (u n) = ap one_if (h n (omega arith)) in
    let rest : count_below t n ≡ count_below u n = count_same t u n (λ k l. h k (omega arith)) in omega arith

-- some number passes
pub counted_some : (t : ℕ → Bool) (n : ℕ) → 0 < count_below t n → (k : ℕ) × (k < n) × (t k ≡ true)
counted_some t zero h = absurd (omega arith)
counted_some t (suc n) h = elim (cases_Bool (t n)) [
  | inl e ↦ (n, (let r : n < suc n = omega arith in r), e)
  | inr f ↦ (
      let none : one_if (t n) ≡ 0 = ap one_if f in
      let r = counted_some t n (omega arith) in
      (r.0, (let b : r.0 < n = r.1 in let w : r.0 < suc n = omega arith in w), r.2))
]

-- some number does not pass
pub count_lacks : (t : ℕ → Bool) (n i : ℕ) → i < n → t i ≡ false → count_below t n < n
count_lacks t n i h e =
    let a : count_below t n + 1 ≤ count_below (λ k. true) n = fewer_below t (λ k. true) (λ k f. refl) n i h e refl in
    let b : count_below (λ k. true) n ≤ n = count_below-max (λ k. true) n in omega arith

-- one number more, which passes or does not
pub count_next : (t : ℕ → Bool) (n m : ℕ) → m ≡ n + 1 → count_below t m ≡ cond (t n) 1 0 + count_below t n
count_next t n m e = ap (count_below t) (let s : m ≡ suc n = omega arith in s)
