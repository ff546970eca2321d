-- The graph of the sums needs few slots.
use Rattle.std.proofs.Common.{ℕ, zero, suc, ◌≤◌, List, [], ◌∷◌, length, take, arith}
use Rattle.std.specs.Prelude.{nat_lt}
use Rattle.std.proofs.lemmas.List.Sums.{count_by-le-length}
use Rattle.graph_meaning.specs.Need.{open_at, IsNeed}
use Rattle.embedded_run.specs.SumGraph.{sum_graph}

take_few : (k : ℕ) (xs : List ℕ) → length (take k xs) ≤ k
take_few zero xs = omega arith
take_few (suc k) [] = omega arith
take_few (suc k) (x ∷ xs) = omega (arith, take_few k xs)

open_few : (highs : List ℕ) (k : ℕ) → open_at highs k ≤ k
open_few highs k = omega (arith, count_by-le-length (nat_lt k) (take k highs), take_few k highs)

pub sum_need : (n : ℕ) → IsNeed sum_graph n → n ≤ 4
sum_need n is = omega (arith, is.most, open_few is.highs 0, open_few is.highs 1, open_few is.highs 2, open_few is.highs 3)
