-- A rule of lines that is tried for a block of them.
use Rattle.std.specs.Prelude.{ℕ, ◌<◌, ◌≤◌}

-- a rule of lines fails at line i of those from `first` up to `end`, and at none of them before it
pub record IsFirstIn (R : ℕ → Type 0) (first end i : ℕ) : Type 0 where
  pub begins : first ≤ i
  pub ends : i < end
  pub here : R i → ⊥
  pub before : (k : ℕ) → first ≤ k → k < i → R k
