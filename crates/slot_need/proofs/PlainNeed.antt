-- The need of a graph whose lines wait for lines above them alone.
use Rattle.std.proofs.Common.{◌≡◌, ℕ, ◌+◌, ◌<◌, ◌≤◌, max, false, inl, inr, List, [], ◌∷◌, length, map, refl, sym, ◌∙◌, ap, arith}
use Rattle.std.specs.Prelude.{Contains, nat_lt, slice_index}
use Rattle.std.specs.List.{range_with_len}
use Rattle.std.proofs.lemmas.Bool.{true≢false, le-ltb}
use Rattle.std.proofs.lemmas.List.FromFn.{get_or-range_with_len, length-range_with_len}
use Rattle.std.proofs.lemmas.List.Elements.{Contains-append_cases}
use Rattle.basics.specs.Lists.{numbers_below, count_below}
use Rattle.basics.proofs.ListFacts.{below_contains, contains_here, contains_there}
use Rattle.graph_terms.specs.declared.verb.Edge.{Edge}
use Rattle.graph_terms.specs.Graph.{GraphValue, locks, never_comes}
use Rattle.graph_terms.specs.Edges.{edges}
use Rattle.graph_terms.specs.Fits.{IsGraph}
use Rattle.graph_terms.proofs.Public.{acquired_lock_known}
use Rattle.graph_meaning.specs.Path.{Path, last, first}
use Rattle.graph_meaning.specs.Need.{IsNeed, Precedes, need_edges, release_edges, open_at, largest}
use Rattle.slot_need.proofs.HighFlood.{release_edge_is}
use Rattle.slot_need.proofs.NeedLaws.{count_of_first, count_stays}

-- so many numbers, from 1 on
abbrev from_one : ℕ → List ℕ
from_one n = range_with_len 1 n

number_at : (n i : ℕ) → i < n → slice_index (from_one n) i ≡ 1 + i
number_at n i h = get_or-range_with_len 1 n i 0 h

largest_none : (f : ℕ → ℕ) (xs : List ℕ) → ((k : ℕ) → Contains xs k → f k ≡ 0) → largest (map f xs) ≡ 0
largest_none f [] none = refl
largest_none f (x ∷ xs) none =
    let here = none x (contains_here x xs) in
    let rest = largest_none f xs (λ k c. none k (contains_there x xs k c)) in
    let most : largest (map f (x ∷ xs)) ≡ max (f x) (largest (map f xs)) = refl in
    omega (arith, here, rest, most)

-- above each line no number is higher than its place
none_open : (n k : ℕ) → k < n → open_at (from_one n) k ≡ 0
none_open n k h =
    let size = length-range_with_len 1 n in
    let count = count_of_first (nat_lt k) (from_one n) k (omega (arith, size, h)) in
    let start : 0 + k ≡ k = omega arith in
    let none = count_stays (λ i. nat_lt k (slice_index (from_one n) i)) 0 k (λ i low up. le-ltb k (slice_index (from_one n) i) (let at = number_at n i (omega (arith, up, h)) in omega (arith, at, up))) in
    count ∙ (ap (count_below (λ i. nat_lt k (slice_index (from_one n) i))) (sym start) ∙ none)

module _ (g : GraphValue) (graph : IsGraph g) (free : length (locks g) ≡ 0) (ascend : (e : Edge) → Contains (edges g) e → e.from < e.to) where
  -- without reservations there are no edges from releases
  need_ascend : (e : Edge) → Contains (need_edges g) e → e.from < e.to
  need_ascend e c = elim (Contains-append_cases (edges g) (release_edges g) e c) [
    | inl own ↦ ascend e own
    | inr more ↦ (let r = release_edge_is g e more in let known = acquired_lock_known g graph r.0 r.1 r.3 in absurd (omega (arith, known, free)))
  ]

  path_ascends : {i j : ℕ} → Path (need_edges g) i j → i < j
  path_ascends (last e c from to) = (let up = need_ascend e c in omega (arith, up, from, to))
  path_ascends (first e c from rest) = (let up = need_ascend e c in let on = path_ascends rest in omega (arith, up, from, on))

  above : (m i : ℕ) → Precedes (need_edges g) m i → m ≤ i
  above m i (inl same) = omega (arith, same)
  above m i (inr path) = (let up = path_ascends path in omega (arith, up))

  pub one_slot : ((i : ℕ) → i < length g.lines → never_comes g i ≡ false) → IsNeed g 1
  one_slot come =
      let n = length g.lines in
      record {
        highs = from_one n;
        each_line = length-range_with_len 1 n;
        high = λ i low. record {
          above = λ m p. (let up = above m i p in let at = number_at n i low in omega (arith, up, at));
          above_all = λ m p never. absurd (true≢false (sym never ∙ come m (let up = above m i p in omega (arith, up, low))));
          attained = (i, inl refl, inl (let at = number_at n i low in omega (arith, at)));
        };
        most = ap (λ z. 1 + z) (sym (largest_none (open_at (from_one n)) (numbers_below n) (λ k c. none_open n k (below_contains n k c))));
      }
