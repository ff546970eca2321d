-- The lists of the acquires of reservations, line by line.
use Rattle.std.proofs.Common.{◌≡◌, ℕ, zero, suc, ◌+◌, ◌<◌, inl, inr, List, [], ◌∷◌, ◌++◌, length, sym, ◌∙◌, ap, subst, arith}
use Rattle.std.specs.Prelude.{Contains, Some, Vec, slice_get, slice_set}
use Rattle.std.specs.Global.{Global}
use Rattle.std.proofs.lemmas.Bool.{cases_eq, cases_lt}
use Rattle.std.proofs.lemmas.Option.{none-some, same_Some, slice_get_within}
use Rattle.std.proofs.lemmas.List.{length-set}
use Rattle.std.proofs.lemmas.List.Elements.{Contains-append_left, Contains-push, Contains-push_cases}
use Rattle.basics.proofs.ListFacts.{contains_none, set_get, set_get_other}
use Rattle.graph_terms.specs.Graph.{GraphValue, locks}
use Rattle.graph_terms.specs.Reservations.{Acquires}
use Rattle.graph_terms.proofs.Public.{acquire_one}
use Rattle.slot_need.specs.High.{AreAcquires, IsListed}

pub listed_none : (lists : List (Vec ℕ Global)) (v : Vec ℕ Global) → v.items ≡ [] → ((k i : ℕ) → IsListed lists k i → ⊥) → (k i : ℕ) → IsListed (lists ++ v ∷ []) k i → ⊥
listed_none [] v e none zero i x = contains_none i (subst (λ ys. Contains ys i) e (subst (λ (z : Vec ℕ Global). Contains z.items i) (sym (same_Some v x.0 x.1)) x.2))
listed_none [] v e none (suc k) i x = none-some x.0 x.1
listed_none (w ∷ ws) v e none zero i x = none zero i x
listed_none (w ∷ ws) v e none (suc k) i x = listed_none ws v e (λ j m y. none (suc j) m y) k i x

pub acquires_none : (g : GraphValue) (lists : List (Vec ℕ Global)) → length lists ≡ length (locks g) → ((k i : ℕ) → IsListed lists k i → ⊥) → AreAcquires g lists 0
acquires_none g lists count none = record { count = count; is = λ l i x. absurd (none l i x); all = λ l i low a. absurd (omega arith) }

-- a line that is no acquire
pub acquires_passed : (g : GraphValue) (lists : List (Vec ℕ Global)) (line : ℕ) → AreAcquires g lists line → ((l : ℕ) → Acquires g line l → ⊥) → AreAcquires g lists (line + 1)
acquires_passed g lists line are none = record {
  count = are.count;
  is = are.is;
  all = λ l i low a. elim (cases_lt i line) [
    | inl before ↦ are.all l i before a
    | inr up ↦ (let same : i ≡ line = omega arith in absurd (none l (subst (λ z. Acquires g z l) same a)))
  ];
}

-- one acquire more
module _ (g : GraphValue) (lists : List (Vec ℕ Global)) (l line : ℕ) (v new : Vec ℕ Global) (are : AreAcquires g lists line) (at : slice_get lists l ≡ Some v) (pushed : new.items ≡ v.items ++ line ∷ []) (acquires : Acquires g line l) where
  here : slice_get (slice_set lists l new) l ≡ Some new
  here = set_get lists l new (slice_get_within lists l v at)

  from : (k i : ℕ) → IsListed (slice_set lists l new) k i → Acquires g i k
  from k i x = elim (cases_eq k l) [
    | inr apart ↦ are.is k i (x.0, sym (set_get_other lists l k new apart) ∙ x.1, x.2)
    | inl same ↦ (
        let which : new ≡ x.0 = same_Some new x.0 (sym here ∙ (ap (slice_get (slice_set lists l new)) (sym same) ∙ x.1)) in
        elim (Contains-push_cases v.items line i (subst (λ ys. Contains ys i) pushed (subst (λ (z : Vec ℕ Global). Contains z.items i) (sym which) x.2))) [
          | inl old ↦ subst (λ z. Acquires g i z) (sym same) (are.is l i (v, at, old))
          | inr e ↦ subst (λ z. Acquires g i z) (sym same) (subst (λ z. Acquires g z l) e acquires)
        ])
  ]

  listed : (i : ℕ) → Contains (v.items ++ line ∷ []) i → (k : ℕ) → k ≡ l → IsListed (slice_set lists l new) k i
  listed i c k same = (new, ap (slice_get (slice_set lists l new)) same ∙ here, subst (λ ys. Contains ys i) (sym pushed) c)

  into : (k i : ℕ) → i < line + 1 → Acquires g i k → IsListed (slice_set lists l new) k i
  into k i low a = elim (cases_lt i line) [
    | inl before ↦ (
        let c = are.all k i before a in
        elim (cases_eq k l) [
          | inr apart ↦ (c.0, set_get_other lists l k new apart ∙ c.1, c.2)
          | inl same ↦ listed i (Contains-append_left v.items (line ∷ []) i (subst (λ (z : Vec ℕ Global). Contains z.items i) (same_Some c.0 v (sym c.1 ∙ (ap (slice_get lists) same ∙ at))) c.2)) k same
        ])
    | inr up ↦ (
        let same : i ≡ line = omega arith in
        listed i (subst (Contains (v.items ++ line ∷ [])) (sym same) (Contains-push v.items line)) k (acquire_one g line k l (subst (λ z. Acquires g z k) same a) acquires))
  ]

  pub acquires_added : AreAcquires g (slice_set lists l new) (line + 1)
  acquires_added = record { count = length-set lists l new ∙ are.count; is = from; all = into }
