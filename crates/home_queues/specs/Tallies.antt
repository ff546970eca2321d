-- What holds of the counts of all parts.
use Rattle.std.specs.Prelude.{◌≡◌, ℕ, ◌^◌, ◌≤◌, All, List, length}
use Rattle.home_queues.specs.Counts.{CountsValue}
use Rattle.home_queues.specs.declared.tally.PartCounts.{PartCounts}

-- a part counted the numbers below n, of which it has put in and taken no more than it may
pub record IsCounted (n : ℕ) (p : PartCounts) : Type 0 where
  pub pushed_len : length p.pushed.each ≡ n
  pub taken_len : length p.taken.each ≡ n
  pub pushed_most : p.pushed.all ≤ 2 ^ 60
  pub taken_most : p.taken.all ≤ 2 ^ 60

pub record IsTally (n : ℕ) (parts : List PartCounts) (left : CountsValue) : Type 0 where
  pub eight : length parts ≤ 8
  pub counted : All (IsCounted n) parts
  pub left_len : length left.each ≡ n
