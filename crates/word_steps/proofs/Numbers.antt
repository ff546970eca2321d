-- The numbers of seats.
use Rattle.std.proofs.Common.{◌≡◌, ℕ, zero, suc, ◌<◌, ◌≤◌, ◌+◌, ◌⊎◌, inl, inr, List, [], ◌∷◌, ◌++◌, length, set, refl, sym, ◌∙◌, ap, subst, arith, ⊎_elim, cond, eq-eqb, ne_eqb}
use Rattle.std.specs.Prelude.{Contains}
use Rattle.std.proofs.lemmas.Bool.{cases_eq}
use Rattle.std.proofs.lemmas.List.Elements.{Contains-append_cases, Contains-push_cases}
use mathlib.Core.Option.{some}
use lib.ListN.{get_elem?}
use Rattle.atomic_table.proofs.Lists.{at_set, at_snoc, set_else}
use Rattle.basics.specs.Sums.{total, only}
use Rattle.basics.proofs.Sums.{total-set, total-append, term_le, terms_le, item_le, only-same}
use Rattle.basics.proofs.ListFacts.{contains_none, contains_here, contains_there}
use Rattle.word_steps.specs.declared.view.View.{View}
use Rattle.word_steps.specs.Rule.{child, AreNumbered}
use Rattle.word_steps.specs.Plays.{no_view, own_number, parent_of, child_of, joined}
use Rattle.word_steps.proofs.Steps.{sum_same, Born}
use Rattle.word_steps.proofs.Issues.{some_weight}

-- how often a number is a seat's own or joined into it, and how often it was split off
abbrev pub mine_at : ℕ → View → ℕ
mine_at n v = total (only n) v.mine

abbrev pub split_at : ℕ → View → ℕ
split_at n v = total (only n) v.splits

-- CHILDREN have numbers of their own
child_above : (p c : ℕ) → p < child p c
child_above p zero = omega arith
child_above p (suc c) = let h = child_above p c in omega (arith, h)

halves : (a b : ℕ) → a + a ≡ b + b → a ≡ b
halves a b h = omega (arith, h)

child_one : (p q c d : ℕ) → child p c ≡ child q d → (p ≡ q) × (c ≡ d)
child_one p q zero zero h = (omega (arith, h), refl)
child_one p q zero (suc d) h = absurd (let k : ℕ = child q d in let e : p + p + 1 ≡ k + k = h in omega (arith, e))
child_one p q (suc c) zero h = absurd (let k : ℕ = child p c in let e : k + k ≡ q + q + 1 = h in omega (arith, e))
child_one p q (suc c) (suc d) h = let r = child_one p q c d (halves (child p c) (child q d) h) in (r.0, ap suc r.1)

pub only_other : (k n : ℕ) → (n ≡ k → ⊥) → only k n ≡ 0
only_other k n ne = ap (λ b. cond b 1 0) (ne_eqb n k ne)

-- a list in which a number weighs has it
pub weighs_in : (n : ℕ) (xs : List ℕ) → 0 < total (only n) xs → Contains xs n
weighs_in n [] h = absurd (omega arith)
weighs_in n (x ∷ xs) h = elim (cases_eq x n) [
  | inl q ↦ subst (Contains (x ∷ xs)) q (contains_here x xs)
  | inr ne ↦ contains_there x xs n (weighs_in n xs (let z = only_other n x ne in omega (arith, h, z)))
]

pub in_weighs : (n : ℕ) (xs : List ℕ) → Contains xs n → 1 ≤ total (only n) xs
in_weighs n xs c = let t = item_le (only n) xs n c in let o = only-same n in omega (arith, t, o)

no_number : {X : Type 0} (x : X) (xs : List X) → [] ≡ x ∷ xs → ⊥
no_number {X} x xs h = absurd (let e : length {A = X} [] ≡ length (x ∷ xs) = ap length h in omega (arith, e))

head_one : (a b : ℕ) (xs ys : List ℕ) → a ∷ xs ≡ b ∷ ys → a ≡ b
head_one a b xs ys h = ap own_number h

-- A SEAT IS SPLIT
module _ (vs : List View) (o : AreNumbered vs) (id : ℕ) (v : View) (me : get_elem? vs id ≡ some v) (p : ℕ) (ps : List ℕ) (own : v.mine ≡ p ∷ ps) where
  abbrev n' : ℕ
  n' = child (own_number v.mine) v.births

  abbrev w : View
  w = parent_of v

  abbrev u : View
  u = child_of v

  abbrev after : List View
  after = set vs id w ++ u ∷ []

  own_is : own_number v.mine ≡ p
  own_is = ap own_number own

  has_own : Contains v.mine p
  has_own = subst (λ l. Contains l p) (sym own) (contains_here p ps)

  big : p < n'
  big = let a = child_above (own_number v.mine) v.births in let b = own_is in omega (arith, a, b)

  -- no seat was split off with this number before
  unsplit : (j : ℕ) (x : View) → get_elem? vs j ≡ some x → Contains x.splits n' → ⊥
  unsplit j x at c =
      let b = o.born j x n' at c in
      let same = child_one (own_number v.mine) b.0 v.births b.1 b.2 in
      let less = b.4 id v ps me (own ∙ ap (λ k. k ∷ ps) (sym own_is ∙ same.0)) in
      let e = same.1 in
      absurd (omega (arith, less, e))

  new : total (mine_at n') vs ≡ 0
  new = ⊎_elim (λ z. let c = o.counted (only n') in let zero_other = only_other n' 0 (λ q. let b = big in absurd (omega (arith, q, b))) in omega (arith, z, c, zero_other))
      (λ (r : (j : ℕ) × (x : View) × (get_elem? vs j ≡ some x) × (0 < split_at n' x)). absurd (unsplit r.0 r.1 r.2 (weighs_in n' r.1.splits r.3))) (some_weight (split_at n') vs)

  sum_after : (f : View → ℕ) → total f after ≡ total f (set vs id w) + f u
  sum_after f = let a = total-append f (set vs id w) (u ∷ []) in omega (arith, a)

  mine_after : (k : ℕ) → total (mine_at k) after ≡ total (mine_at k) vs + only k n'
  mine_after k = let a = sum_after (mine_at k) in let b = sum_same (mine_at k) vs id v w me refl in omega (arith, a, b)

  above_mine : (k : ℕ) → Contains w.splits k → (q : ℕ) × Contains v.mine q × (q < k)
  above_mine k d = ⊎_elim (λ b. o.above id v k me b) (λ (e : n' ≡ k). (p, has_own, (let b = big in omega (arith, b, e)))) (Contains-push_cases v.splits n' k d)

  old_born : (k : ℕ) → Born vs k → Born after k
  old_born k b = (
    b.0,
    b.1,
    b.2,
    (let a = mine_after b.0 in let h = b.3 in omega (arith, a, h)),
    λ m x rest at own'. ⊎_elim
        (λ l. elim (at_set vs id m w x l) [
          | inl (here, is) ↦ (let h = b.4 id v rest me (ap (λ (y : View). y.mine) is ∙ own') in let e : x.births ≡ v.births + 1 = sym (ap (λ (y : View). y.births) is) in omega (arith, h, e))
          | inr (other, before) ↦ b.4 m x rest before own'
        ])
        (λ (q : u ≡ x). (let same : n' ≡ b.0 = head_one n' b.0 [] rest (ap (λ (y : View). y.mine) q ∙ own') in let h = b.3 in let z = new in let e : total (mine_at b.0) vs ≡ total (mine_at n') vs = ap (λ m. total (mine_at m) vs) (sym same) in absurd (omega (arith, h, z, e))))
        (at_snoc (set vs id w) u x m at),
  )

  new_born : Born after n'
  new_born = (
    own_number v.mine,
    v.births,
    refl,
    (let a = mine_after (own_number v.mine) in let t = term_le (mine_at (own_number v.mine)) vs id v me in let c = in_weighs (own_number v.mine) v.mine (subst (Contains v.mine) (sym own_is) has_own) in omega (arith, a, t, c)),
    λ m x rest at own'. ⊎_elim
        (λ l. elim (at_set vs id m w x l) [
          | inl (here, is) ↦ (let e : x.births ≡ v.births + 1 = sym (ap (λ (y : View). y.births) is) in omega (arith, e))
          | inr (other, before) ↦ (
              let k : ℕ = own_number v.mine in
              let a = terms_le (mine_at k) vs id m v x other me before in
              let b = in_weighs k v.mine (subst (Contains v.mine) (sym own_is) has_own) in
              let c = in_weighs k x.mine (subst (λ l. Contains l k) (sym own') (contains_here k rest)) in
              let d = o.once k in
              absurd (omega (arith, a, b, c, d)))
        ])
        (λ (q : u ≡ x). (let same : n' ≡ own_number v.mine = head_one n' (own_number v.mine) [] rest (ap (λ (y : View). y.mine) q ∙ own') in let b = big in let c = own_is in absurd (omega (arith, same, b, c))))
        (at_snoc (set vs id w) u x m at),
  )

  pub split_numbers : AreNumbered after
  split_numbers = record {
    counted = λ f.
        let a = sum_after (λ (x : View). total f x.mine) in
        let b = sum_after (λ (x : View). total f x.splits) in
        let c = sum_same (λ (x : View). total f x.mine) vs id v w me refl in
        let d = total-set (λ (x : View). total f x.splits) vs id v w me in
        let e = total-append f v.splits (n' ∷ []) in
        let h = o.counted f in
        omega (arith, a, b, c, d, e, h);
    once = λ k. let a = mine_after k in elim (cases_eq n' k) [
      | inl q ↦ (let z = new in let b : total (mine_at k) vs ≡ total (mine_at n') vs = ap (λ m. total (mine_at m) vs) (sym q) in let s : only k n' ≡ 1 = ap (λ b. cond b 1 0) (eq-eqb n' k q) in omega (arith, a, z, b, s))
      | inr ne ↦ (let z = only_other k n' ne in let b = o.once k in omega (arith, a, z, b))
    ];
    above = λ j x k at c. ⊎_elim
        (λ l. elim (at_set vs id j w x l) [
          | inl (here, is) ↦ (
              let d = subst (λ (y : View). Contains y.splits k) (sym is) c in
              let r = above_mine k d in
              (r.0, subst (λ (y : View). Contains y.mine r.0) is r.1, r.2))
          | inr (other, before) ↦ o.above j x k before c
        ])
        (λ (q : u ≡ x). absurd (contains_none k (subst (λ (y : View). Contains y.splits k) (sym q) c)))
        (at_snoc (set vs id w) u x j at);
    born = λ j x k at c. ⊎_elim
        (λ l. elim (at_set vs id j w x l) [
          | inl (here, is) ↦ ⊎_elim (λ d. old_born k (o.born id v k me d)) (λ (q : n' ≡ k). subst (Born after) q new_born) (Contains-push_cases v.splits n' k (subst (λ (y : View). Contains y.splits k) (sym is) c))
          | inr (other, before) ↦ old_born k (o.born j x k before c)
        ])
        (λ (q : u ≡ x). absurd (contains_none k (subst (λ (y : View). Contains y.splits k) (sym q) c)))
        (at_snoc (set vs id w) u x j at);
  }

-- TWO SEATS ARE JOINED
module _ (vs : List View) (o : AreNumbered vs) (id other : ℕ) (v w : View) (me : get_elem? vs id ≡ some v) (apart : other ≡ id → ⊥) (them : get_elem? vs other ≡ some w) (p : ℕ) (ps : List ℕ) (own : v.mine ≡ p ∷ ps) where
  abbrev b : View
  b = joined v w

  abbrev mid : List View
  mid = set vs id b

  abbrev end : List View
  end = set mid other no_view

  pub still_there : get_elem? mid other ≡ some w
  still_there = set_else vs id other b apart ∙ them

  sum_end : (f : View → ℕ) → f b ≡ f v + f w → f no_view ≡ 0 → total f end ≡ total f vs
  sum_end f adds none_of = let x = total-set f vs id v b me in let y = total-set f mid other w no_view still_there in omega (arith, x, y, adds, none_of)

  mine_end : (f : ℕ → ℕ) → total (λ (x : View). total f x.mine) end ≡ total (λ (x : View). total f x.mine) vs
  mine_end f = sum_end (λ (x : View). total f x.mine) (total-append f v.mine w.mine) refl

  at_end : (j : ℕ) (x : View) → get_elem? end j ≡ some x → (no_view ≡ x) ⊎ ((b ≡ x) ⊎ ((j ≡ id → ⊥) × (get_elem? vs j ≡ some x)))
  at_end j x at = elim (at_set mid other j no_view x at) [
    | inl (here, is) ↦ inl is
    | inr (away, before) ↦ elim (at_set vs id j b x before) [ inl (here, is) ↦ inr (inl is) | inr (far, first) ↦ inr (inr (far, first)) ]
  ]

  above_both : (k : ℕ) → Contains b.splits k → (q : ℕ) × Contains b.mine q × (q < k)
  above_both k d = ⊎_elim
      (λ c. let r = o.above id v k me c in (r.0, Rattle.std.proofs.lemmas.List.Elements.Contains-append_left v.mine w.mine r.0 r.1, r.2))
      (λ c. let r = o.above other w k them c in (r.0, Rattle.std.proofs.lemmas.List.Elements.Contains-append_right v.mine w.mine r.0 r.1, r.2))
      (Contains-append_cases v.splits w.splits k d)

  still_born : (k : ℕ) → Born vs k → Born end k
  still_born k n = (
    n.0,
    n.1,
    n.2,
    (let a = mine_end (only n.0) in let h = n.3 in omega (arith, a, h)),
    λ m x rest at own'. elim (at_end m x at) [
      | inl q ↦ absurd (no_number n.0 rest (ap (λ (y : View). y.mine) q ∙ own'))
      | inr (inl q) ↦ (
          let same : p ≡ n.0 = head_one p n.0 (ps ++ w.mine) rest (ap (λ (l : List ℕ). l ++ w.mine) (sym own) ∙ (ap (λ (y : View). y.mine) q ∙ own')) in
          let h = n.4 id v ps me (own ∙ ap (λ r. r ∷ ps) same) in
          subst (λ r. n.1 < r) (ap (λ (y : View). y.births) q) h)
      | inr (inr (far, before)) ↦ n.4 m x rest before own'
    ],
  )

  pub join_numbers : AreNumbered end
  join_numbers = record {
    counted = λ f. let a = mine_end f in let c = sum_end (λ (x : View). total f x.splits) (total-append f v.splits w.splits) refl in let h = o.counted f in omega (arith, a, c, h);
    once = λ k. let a = mine_end (only k) in let h = o.once k in omega (arith, a, h);
    above = λ j x k at c. elim (at_end j x at) [
      | inl q ↦ absurd (contains_none k (subst (λ (y : View). Contains y.splits k) (sym q) c))
      | inr (inl q) ↦ (
          let d = subst (λ (y : View). Contains y.splits k) (sym q) c in
          let r = above_both k d in
          (r.0, subst (λ (y : View). Contains y.mine r.0) q r.1, r.2))
      | inr (inr (far, before)) ↦ o.above j x k before c
    ];
    born = λ j x k at c. elim (at_end j x at) [
      | inl q ↦ absurd (contains_none k (subst (λ (y : View). Contains y.splits k) (sym q) c))
      | inr (inl q) ↦ ⊎_elim (λ d. still_born k (o.born id v k me d)) (λ d. still_born k (o.born other w k them d)) (Contains-append_cases v.splits w.splits k (subst (λ (y : View). Contains y.splits k) (sym q) c))
      | inr (inr (far, before)) ↦ still_born k (o.born j x k before c)
    ];
  }
