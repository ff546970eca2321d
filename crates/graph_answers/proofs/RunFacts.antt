-- That a need is no more than the lines that a graph may have.
use Rattle.std.proofs.Common.{◌≡◌, ℕ, zero, suc, ◌+◌, ◌<◌, ◌≤◌, List, [], ◌∷◌, map, length, take, arith}
use Rattle.std.specs.Prelude.{Contains, nat_lt}
use Rattle.std.proofs.lemmas.List.Sums.{count_by-le-length}
use Rattle.basics.specs.Lists.{numbers_below}
use Rattle.graph_terms.specs.Graph.{GraphValue}
use Rattle.graph_meaning.specs.Need.{open_at, largest, IsNeed}
use Rattle.basics.proofs.ListFacts.{contains_here, contains_there, map_contains, below_contains}

largest_at_most : (xs : List ℕ) (m : ℕ) → ((x : ℕ) → Contains xs x → x ≤ m) → largest xs ≤ m
largest_at_most [] m h = omega arith
largest_at_most (x ∷ xs) m h =
    let here : x ≤ m = h x (contains_here x xs) in
    let rest : largest xs ≤ m = largest_at_most xs m (λ y c. h y (contains_there x xs y c)) in
    omega (arith, here, rest)

-- a need is at most the number of lines, or 1
pub need_is_small : (g : GraphValue) (n m : ℕ) → IsNeed g n → length g.lines ≤ m + 1 → n ≤ m + 1
need_is_small g n m is few =
    let most : n ≡ 1 + largest (map (open_at is.highs) (numbers_below (length g.lines))) = is.most in
    let bound : largest (map (open_at is.highs) (numbers_below (length g.lines))) ≤ m = largest_at_most (map (open_at is.highs) (numbers_below (length g.lines))) m (λ x c.
    let at = map_contains (open_at is.highs) (numbers_below (length g.lines)) x c in
    let below : at.0 < length g.lines = below_contains (length g.lines) at.0 at.1 in
    let counted : open_at is.highs at.0 ≤ length (take at.0 is.highs) = count_by-le-length (nat_lt at.0) (take at.0 is.highs) in
    let short : length (take at.0 is.highs) ≤ at.0 = length_take_most at.0 is.highs in
    let same : open_at is.highs at.0 ≡ x = at.2 in
    omega (arith, below, few, counted, short, same)) in
    omega (arith, most, bound)
  where
    length_take_most : (k : ℕ) (xs : List ℕ) → length (take k xs) ≤ k
    length_take_most zero xs = omega arith
    length_take_most (suc k) [] = omega arith
    length_take_most (suc k) (x ∷ xs) = (let r : length (take k xs) ≤ k = length_take_most k xs in omega (arith, r))
