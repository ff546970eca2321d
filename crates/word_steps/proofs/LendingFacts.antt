-- What lies in the slot of a column and in the places of its shares: as shares are taken off what is left of all, and put together again.
use Rattle.std.proofs.Common.{◌≡◌, ℕ, zero, suc, ◌+◌, ◌-◌, ◌^◌, ◌<◌, ◌≤◌, cond, Option, Some, None, refl, sym, ◌∙◌, ap, subst, arith, inl, inr}
use Rattle.std.specs.Prelude.{min, ◌==◌}
use Rattle.std.proofs.lemmas.Bool.{cases_eq, cases_lt, lt-ltb, le-ltb, eq-eqb, ne_eqb}
use Rattle.index_spaces.specs.Column.{ColumnValue}
use Rattle.index_spaces.specs.Shares.{ShareValue}
use Rattle.word_steps.specs.declared.content.Content.TheVariants.{Nothing, Cells, Lent, Share}
use Rattle.word_steps.specs.Lending.{home_for, all_for, count_for, place_for, rest_for, first_for, AreWhole, MayJoin, joined, in_place}

-- shares of a column, so many
abbrev share_of : ColumnValue → ℕ → ℕ → ShareValue
share_of x d n = record { column = x; lending = d; count = n }

module _ (count d : ℕ) (x : ColumnValue) where
  -- PLACES
  pub place_none : (n : ℕ) → count ≤ n → place_for count n d x ≡ Nothing
  place_none n h = ap (λ b. cond b (Share (share_of x d (count_for count n))) Nothing) (le-ltb n count h)

  pub place_some : (n : ℕ) → n < count → place_for count n d x ≡ Share (share_of x d (count_for count n))
  place_some n h = ap (λ b. cond b (Share (share_of x d (count_for count n))) Nothing) (lt-ltb n count h)

  count_one : (n : ℕ) → 0 < n → count_for count n ≡ 1
  count_one zero h = absurd (omega arith)
  count_one (suc n) h = refl

  pub place_one : (n : ℕ) → 0 < n → n < count → place_for count n d x ≡ Share (share_of x d 1)
  place_one n h l = place_some n l ∙ ap (λ k. Share (share_of x d k)) (count_one n h)

  -- WHAT IS LEFT
  pub rest_none : (n : ℕ) → count ≡ 0 → rest_for count n d x ≡ Nothing
  rest_none n h = ap (λ b. cond b Nothing (Share (share_of x d (2 ^ 63 + 1 - min n count)))) (eq-eqb count 0 h)

  pub rest_some : (n : ℕ) → 0 < count → rest_for count n d x ≡ Share (share_of x d (2 ^ 63 + 1 - min n count))
  rest_some n h = ap (λ b. cond b Nothing (Share (share_of x d (2 ^ 63 + 1 - min n count)))) (ne_eqb count 0 (λ e. omega arith))

  pub rest_is : (n : ℕ) → n < count → rest_for count n d x ≡ Share (share_of x d (2 ^ 63 + 1 - n))
  rest_is n h = rest_some n (omega arith) ∙ ap (λ k. Share (share_of x d (2 ^ 63 + 1 - k))) (omega arith)

  pub rest_less : (n : ℕ) → n < count → rest_for count (n + 1) d x ≡ Share (share_of x d (2 ^ 63 + 1 - n - 1))
  rest_less n h =
      let few : min (n + 1) count ≡ n + 1 = omega arith in
      rest_some (n + 1) (omega arith) ∙ (ap (λ k. Share (share_of x d (2 ^ 63 + 1 - k))) few ∙ ap (λ k. Share (share_of x d k)) (omega arith))

  pub rest_same : (n : ℕ) → count ≤ n → rest_for count (n + 1) d x ≡ rest_for count n d x
  rest_same n h = ap (λ k. cond (count == 0) Nothing (Share (share_of x d (2 ^ 63 + 1 - k)))) (let same : min (n + 1) count ≡ min n count = omega arith in same)

  -- once the others lie in their places, what is left is the first share
  pub rest_first : (n : ℕ) → count ≤ n → rest_for count n d x ≡ place_for count 0 d x
  rest_first n h = elim (cases_eq count 0) [
    | inl e ↦ rest_none n e ∙ sym (place_none 0 (omega arith))
    | inr ne ↦ (
        let all : min n count ≡ count = omega arith in
        rest_some n (omega arith) ∙ (ap (λ k. Share (share_of x d (2 ^ 63 + 1 - k))) all ∙ sym (place_some 0 (omega arith))))
  ]

  -- at first all is left
  pub all_left : in_place (all_for count d x) ≡ rest_for count 1 d x
  all_left = elim (cases_eq count 0) [
    | inl e ↦ ap (λ b. in_place (cond b None (Some (share_of x d (2 ^ 63))))) (eq-eqb count 0 e) ∙ sym (rest_none 1 e)
    | inr ne ↦ (
        let one : 2 ^ 63 ≡ 2 ^ 63 + 1 - min 1 count = omega arith in
        ap (λ b. in_place (cond b None (Some (share_of x d (2 ^ 63))))) (ne_eqb count 0 ne) ∙ (ap (λ k. Share (share_of x d k)) one ∙ sym (rest_some 1 (omega arith))))
  ]

  -- PUT TOGETHER
  pub first_none : (n : ℕ) → min n count ≡ 0 → first_for count n d x ≡ None
  first_none n h = ap (λ b. cond b None (Some (share_of x d (2 ^ 63 + min n count - count)))) (eq-eqb (min n count) 0 h)

  pub first_some : (n : ℕ) → 0 < min n count → first_for count n d x ≡ Some (share_of x d (2 ^ 63 + min n count - count))
  first_some n h = ap (λ b. cond b None (Some (share_of x d (2 ^ 63 + min n count - count)))) (ne_eqb (min n count) 0 (λ e. omega arith))

  module _ (few : count < 2 ^ 63) where
    pub may_join : (n : ℕ) → MayJoin (first_for count n d x) (place_for count n d x)
    may_join n = elim (cases_lt n count) [
      | inl low ↦ (elim (cases_eq n 0) [
        | inl e ↦ subst (λ (a : Option ShareValue). MayJoin a (place_for count n d x)) (sym (first_none n (omega arith))) (subst (MayJoin None) (sym (place_some n low)) tt)
        | inr ne ↦ subst (λ (a : Option ShareValue). MayJoin a (place_for count n d x)) (sym (first_some n (omega arith)))
            (subst (MayJoin (Some (share_of x d (2 ^ 63 + min n count - count)))) (sym (place_one n (omega arith) low)) (refl, omega arith, omega arith))
      ])
      | inr high ↦ subst (MayJoin (first_for count n d x)) (sym (place_none n high)) tt
    ]

    pub join_next : (n : ℕ) → joined (first_for count n d x) (place_for count n d x) ≡ first_for count (n + 1) d x
    join_next n = elim (cases_lt n count) [
      | inl low ↦ (elim (cases_eq n 0) [
        | inl e ↦ (
            let one : count_for count n ≡ 2 ^ 63 + min (n + 1) count - count = ap (count_for count) e ∙ omega arith in
            ap (λ (a : Option ShareValue). joined a (place_for count n d x)) (first_none n (omega arith)) ∙ (ap (joined None) (place_some n low)
            ∙ (ap (λ k. Some (share_of x d k)) one ∙ sym (first_some (n + 1) (omega arith)))))
        | inr ne ↦ (
            let more : 2 ^ 63 + min n count - count + 1 ≡ 2 ^ 63 + min (n + 1) count - count = omega arith in
            ap (λ (a : Option ShareValue). joined a (place_for count n d x)) (first_some n (omega arith)) ∙ (ap (joined (Some (share_of x d (2 ^ 63 + min n count - count)))) (place_one n (omega arith) low)
            ∙ (ap (λ k. Some (share_of x d k)) more ∙ sym (first_some (n + 1) (omega arith)))))
      ])
      | inr high ↦ (
          let same : min n count ≡ min (n + 1) count = omega arith in
          ap (joined (first_for count n d x)) (place_none n high) ∙ (kept (first_for count n d x) ∙ ap (λ k. cond (k == 0) None (Some (share_of x d (2 ^ 63 + k - count)))) same))
    ]
      where
        kept : (a : Option ShareValue) → joined a Nothing ≡ a
        kept None = refl
        kept (Some s) = refl

    pub first_all : (n : ℕ) → count ≤ n → first_for count n d x ≡ all_for count d x
    first_all n h =
        let all : min n count ≡ count = omega arith in
        ap (λ k. cond (k == 0) None (Some (share_of x d (2 ^ 63 + k - count)))) all ∙ ap (λ k. cond (count == 0) None (Some (share_of x d k))) (omega arith)

  pub whole_for : AreWhole (home_for count d x) (all_for count d x) x
  whole_for = elim (cases_eq count 0) [
    | inl e ↦ subst (λ b. AreWhole (cond b (Cells x) (Lent (record { column = x; lending = d }))) (cond b None (Some (share_of x d (2 ^ 63)))) x) (sym (eq-eqb count 0 e)) refl
    | inr ne ↦ subst (λ b. AreWhole (cond b (Cells x) (Lent (record { column = x; lending = d }))) (cond b None (Some (share_of x d (2 ^ 63)))) x) (sym (ne_eqb count 0 ne)) (refl, refl, refl)
  ]
