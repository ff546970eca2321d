-- The lines as they are numbered are an order, where each edge leads to a higher number.
use Rattle.std.proofs.Common.{◌≡◌, ℕ, ◌+◌, ◌<◌, List, [], ◌∷◌, ◌++◌, inl, inr, length, take, sym, ◌∙◌, ap, subst, length-append, arith}
use Rattle.std.specs.Prelude.{Contains, slice_index, ◌==◌, not}
use Rattle.std.proofs.lemmas.Bool.{cases_lt, and_parts, false_from_ne_true, true≢false, not-true}
use Rattle.std.proofs.lemmas.List.{get_or_append_left, take_all}
use Rattle.std.proofs.Math.Seq.{get_or-append_seam}
use Rattle.graph_terms.specs.declared.verb.Edge.{Edge}
use Rattle.graph_terms.specs.Graph.{GraphValue}
use Rattle.graph_terms.specs.Edges.{edges}
use Rattle.cycle_search.specs.Paths.{EdgesBetween}
use Rattle.cycle_search.specs.Order.{is_in, awaits, IsOrdered}
use Rattle.cycle_search.proofs.Sorting.{contains_in, contains_take, take_contains, counted_none}

-- a list of the numbers below its length
pub record AreNumbers (xs : List ℕ) (n : ℕ) : Type 0 where
  pub size : length xs ≡ n
  pub each : (k : ℕ) → k < n → slice_index xs k ≡ k

pub numbers_more : (xs : List ℕ) (n : ℕ) → AreNumbers xs n → AreNumbers (xs ++ n ∷ []) (n + 1)
numbers_more xs n a =
    let size : length xs ≡ n = a.size in
    let longer : length (xs ++ n ∷ []) ≡ length xs + 1 = length-append xs (n ∷ []) in
    record {
      size = omega arith;
      each = λ k h. elim (cases_lt k n) [
        | inl low ↦ get_or_append_left xs (n ∷ []) 0 k (omega arith) ∙ a.each k low
        | inr up ↦ (let same : length xs ≡ k = omega (arith, h, up) in subst (λ z. slice_index (xs ++ n ∷ []) z ≡ z) same (get_or-append_seam xs n [] 0 ∙ sym size))
      ];
    }

number_in : (xs : List ℕ) (n : ℕ) → AreNumbers xs n → (p i : ℕ) → i < p → i < n → Contains (take p xs) i
number_in xs n a p i before low = subst (λ z. Contains (take p xs) z) (a.each i low) (take_contains xs p i before (let s : length xs ≡ n = a.size in omega arith))

number_of : (xs : List ℕ) (n : ℕ) → AreNumbers xs n → (i : ℕ) → i < n → Contains xs i
number_of xs n a i low = subst (λ ys. Contains ys i) (take_all n xs (let s : length xs ≡ n = a.size in omega arith)) (number_in xs n a n i low low)

number_low : (xs : List ℕ) (n : ℕ) → AreNumbers xs n → (i : ℕ) → Contains xs i → i < n
number_low xs n a i c =
    let s : length xs ≡ n = a.size in
    let k = contains_take xs (length xs) i (subst (λ ys. Contains ys i) (sym (take_all (length xs) xs (omega arith))) c) in
    subst (λ z. z < n) (sym (a.each k.0 (omega (arith, k.1))) ∙ k.3) (omega (arith, k.1))

pub numbers_ordered : (g : GraphValue) → EdgesBetween g → ((e : Edge) → Contains (edges g) e → e.from < e.to) → (order left : List ℕ) → AreNumbers order (length g.lines) → length left ≡ length g.lines → ((i : ℕ) → slice_index left i ≡ 0) → IsOrdered g order left
numbers_ordered g between ascend order left a size none =
    let all : take (length order) order ≡ order = take_all (length order) order (omega arith) in (
      size,
      record {
        within = omega arith;
        lines = λ i c. number_low order (length g.lines) a i c;
        distinct = λ p q before low same. (
            let s : length order ≡ length g.lines = a.size in
            let x = a.each p (omega arith) in
            let y = a.each q (omega arith) in
            absurd (omega (arith, x, y, same, before)));
        counts = λ i. none i ∙ sym (ap (λ z. z + 0) (counted_none (awaits i (take (length order) order)) (edges g) (λ e c. false_from_ne_true (awaits i (take (length order) order) e) (λ yes'. (
            let parts = and_parts (e.to == i) (not (is_in (take (length order) order) e.from)) yes' in
            true≢false (sym (contains_in (take (length order) order) e.from (subst (λ ys. Contains ys e.from) (sym all) (number_of order (length g.lines) a e.from (between e c).0))) ∙ not-true (is_in (take (length order) order) e.from) parts.1))))));
        listed = λ i low zero'. number_of order (length g.lines) a i low;
        waited = λ i c. none i;
        before = λ p low e c to. (
            let s : length order ≡ length g.lines = a.size in
            let at : slice_index order p ≡ p = a.each p (omega arith) in
            let l : e.from < e.to = ascend e c in
            number_in order (length g.lines) a p e.from (omega (arith, l, to, at)) (between e c).0);
      },
    )
