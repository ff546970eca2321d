-- The order of the lines, as the sweeps take it.
use Rattle.std.proofs.Common.{◌≡◌, ℕ, zero, suc, ◌+◌, ◌<◌, ◌≤◌, Bool, true, false, ◌||◌, cond, inl, inr, List, [], ◌∷◌, length, sym, ◌∙◌, ap, arith}
use Rattle.std.specs.Prelude.{slice_index, ◌==◌}
use Rattle.std.proofs.lemmas.Bool.{cases_order, cases_eq, ne_eqb}
use Rattle.std.proofs.lemmas.List.{get_or_read}
use Rattle.std.proofs.lemmas.List.Elements.{Contains-get_or}
use Rattle.graph_terms.specs.Graph.{GraphValue}
use Rattle.graph_meaning.specs.Rules.{NoCycleAt, Everywhere}
use Rattle.sweep_base.specs.Placed.{IsOrder}
use Rattle.cycle_search.specs.Paths.{EdgesBetween}
use Rattle.basics.specs.Lists.{count_below}
use Rattle.cycle_search.specs.Order.{IsOrdered, is_in}
use Rattle.cycle_search.proofs.Sorting.{all_listed, in_contains, contains_take}

pub order_placed : (g : GraphValue) → EdgesBetween g → (order left : List ℕ) → IsOrdered g order left → Everywhere (NoCycleAt g) → IsOrder g order
order_placed g between order left o acyclic = record {
  within = λ p h. o.1.lines (slice_index order p) (Contains-get_or order p 0 h);
  each = λ i h. (let c = in_contains order i (all_listed g between order (slice_index left) o.1 acyclic i h) in (c.0, c.1, sym (get_or_read order c.0 i c.1 (sym c.2) 0)));
  distinct = o.1.distinct;
  forward = λ e p q c hp hq from to. (
      let k = contains_take order q e.from (o.1.before q hq e c (sym to)) in
      let low : k.0 < q = k.1 in
      elim (cases_order k.0 p) [
        | inl same ↦ omega arith
        | inr (inl before) ↦ absurd (o.1.distinct k.0 p before hp (k.3 ∙ sym from))
        | inr (inr behind) ↦ absurd (o.1.distinct p k.0 behind k.2 (from ∙ sym k.3))
      ]);
}

-- a list that has all numbers below n is no shorter than n
some_more : (b : Bool) → cond b 1 0 ≤ 1
some_more true = omega arith
some_more false = omega arith

same_below : (t : ℕ → Bool) (x n : ℕ) → n ≤ x → count_below (λ i. (i == x) || t i) n ≡ count_below t n
same_below t x zero h = omega arith
same_below t x (suc n) h =
    let rest : count_below (λ i. (i == x) || t i) n ≡ count_below t n = same_below t x n (omega arith) in
    let here : cond {A = ℕ} ((n == x) || t n) 1 0 ≡ cond {A = ℕ} (t n) 1 0 = ap (λ b. cond {A = ℕ} (b || t n) 1 0) (ne_eqb n x (λ e. absurd (omega arith))) in
    omega arith

one_more : (t : ℕ → Bool) (x n : ℕ) → count_below (λ i. (i == x) || t i) n ≤ count_below t n + 1
one_more t x zero = omega arith
one_more t x (suc n) = elim (cases_eq n x) [
  | inl same ↦ (
      let rest : count_below (λ i. (i == x) || t i) n ≡ count_below t n = same_below t x n (omega arith) in
      let here : cond {A = ℕ} ((n == x) || t n) 1 0 ≤ 1 = some_more ((n == x) || t n) in
      omega arith)
  | inr apart ↦ (
      let rest : count_below (λ i. (i == x) || t i) n ≤ count_below t n + 1 = one_more t x n in
      let here : cond {A = ℕ} ((n == x) || t n) 1 0 ≡ cond {A = ℕ} (t n) 1 0 = ap (λ b. cond {A = ℕ} (b || t n) 1 0) (ne_eqb n x apart) in
      omega arith)
]

none_counted : (n : ℕ) → count_below (λ i. false) n ≡ 0
none_counted zero = omega arith
none_counted (suc n) = let r : count_below (λ i. false) n ≡ 0 = none_counted n in omega arith

all_counted : (t : ℕ → Bool) (n : ℕ) → ((i : ℕ) → i < n → t i ≡ true) → count_below t n ≡ n
all_counted t zero h = omega arith
all_counted t (suc n) h =
    let r : count_below t n ≡ n = all_counted t n (λ i l. h i (omega arith)) in
    let here : cond {A = ℕ} (t n) 1 0 ≡ 1 = ap (λ b. cond {A = ℕ} b 1 0) (h n (omega arith)) in
    omega arith

counted_short : (xs : List ℕ) (n : ℕ) → count_below (is_in xs) n ≤ length xs
counted_short [] n = let r : count_below (λ i. false) n ≡ 0 = none_counted n in omega arith
counted_short (x ∷ xs) n =
    let more : count_below (λ i. (i == x) || is_in xs i) n ≤ count_below (is_in xs) n + 1 = one_more (is_in xs) x n in
    let rest : count_below (is_in xs) n ≤ length xs = counted_short xs n in
    omega arith

pub order_full : (g : GraphValue) → EdgesBetween g → (order left : List ℕ) → IsOrdered g order left → length order ≤ length g.lines → Everywhere (NoCycleAt g) → length order ≡ length g.lines
order_full g between order left o few acyclic =
    let all : count_below (is_in order) (length g.lines) ≡ length g.lines = all_counted (is_in order) (length g.lines) (λ i h. all_listed g between order (slice_index left) o.1 acyclic i h) in
    let short : count_below (is_in order) (length g.lines) ≤ length order = counted_short order (length g.lines) in
    omega arith
