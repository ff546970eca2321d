-- Rules that are tried for blocks of 64 lines.
use Rattle.std.specs.Prelude.{ℕ, ◌+◌, ◌<◌, ◌≤◌}

-- a rule of pairs holds for the 64 lines from `first` on, each with the lines below n
abbrev pub HoldsIn : (ℕ → ℕ → Type 0) → ℕ → ℕ → Type 0
HoldsIn R first n = (b m : ℕ) → b < 64 → m < n → R (first + b) m

-- it fails at i and j, and at no lesser lines from `first` on
pub record FailsFirstIn (R : ℕ → ℕ → Type 0) (first n i j : ℕ) : Type 0 where
  pub here : R i j → ⊥
  pub before : (k m : ℕ) → first ≤ k → k < i → m < n → R k m
  pub beside : (m : ℕ) → m < j → R i m

-- of the lines below n, the least bit of a block at which a rule fails is `limit`, if that is below 64, and it fails first at `found`
pub record IsLeast (R : ℕ → ℕ → Type 0) (first limit found n : ℕ) : Type 0 where
  pub few : limit ≤ 64
  pub below : (b m : ℕ) → b < limit → m < n → R (first + b) m
  pub here : limit < 64 → R (first + limit) found → ⊥
  pub beside : limit < 64 → (m : ℕ) → m < found → R (first + limit) m
  pub known : limit < 64 → found < n

-- the least bit below a limit at which a rule fails with line n
pub record IsLowest (R : ℕ → ℕ → Type 0) (first limit n bit : ℕ) : Type 0 where
  pub below : bit < limit
  pub here : R (first + bit) n → ⊥
  pub before : (k : ℕ) → k < bit → R (first + k) n

abbrev pub NoneLow : (ℕ → ℕ → Type 0) → ℕ → ℕ → ℕ → Type 0
NoneLow R first limit n = (b : ℕ) → b < limit → R (first + b) n
