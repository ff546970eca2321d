-- The ends of spaces.
use Rattle.std.specs.Prelude.{◌≡◌, ℕ, ◌≤◌, ◌||◌, nat_lt, Bool, true, List}
use Rattle.index_spaces.specs.Space.{has_point}
use Rattle.flow_order.specs.declared.ends.Ends.{Ends}

-- no point of the space lies outside
abbrev pub AreEnds : List (ℕ × ℕ) → Ends → Type 0
AreEnds s e = (p : ℕ) → has_point s p ≡ true → (e.low ≤ p) × (p ≤ e.high)

-- one ends before the other begins
abbrev pub are_apart : Ends → Ends → Bool
are_apart d e = nat_lt d.high e.low || nat_lt e.high d.low
