-- What contracts see of counts.
use Rattle.std.specs.Prelude.{ℕ, ◌+◌, List, replicate, slice_set, slice_index}

-- how often each number was counted, and how many in all
pub record CountsValue : Type 0 where
  pub each : List ℕ
  pub all : ℕ

-- before any was counted
abbrev pub no_counts : ℕ → CountsValue
no_counts n = record { each = replicate n 0; all = 0 }

-- one more of the number x
abbrev pub one_more : List ℕ → ℕ → List ℕ
one_more counts x = slice_set counts x (slice_index counts x + 1)

abbrev pub counted : CountsValue → ℕ → CountsValue
counted c x = record { each = one_more c.each x; all = c.all + 1 }
