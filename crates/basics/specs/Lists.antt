-- Numbers in a row, and how many of them pass a test.
use Rattle.std.specs.Prelude.{ℕ, zero, suc, ◌+◌, Bool, cond, List}
use Rattle.std.specs.List.{range_with_len}

-- the numbers 0, 1, .. below n
abbrev pub numbers_below : ℕ → List ℕ
numbers_below n = range_with_len 0 n

-- how many numbers below n pass a test
abbrev pub count_below : (ℕ → Bool) → ℕ → ℕ
count_below t zero = 0
count_below t (suc n) = cond (t n) 1 0 + count_below t n
