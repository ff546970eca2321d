-- Which notes of lines that race are enough.
use Rattle.std.specs.Prelude.{◌≡◌, ℕ, ◌<◌, ◌⊎◌, Bool, true, List}
use Rattle.graph_terms.specs.Graph.{GraphValue}
use Rattle.conflict_classes.specs.Settled.{IsSettled}
use Rattle.sweep_base.specs.Noted.{is_noted}

-- two lines are settled, or both are noted
abbrev pub IsSettledOrNoted : GraphValue → List Bool → ℕ → ℕ → Type 0
IsSettledOrNoted g racing i j = IsSettled g i j ⊎ ((is_noted racing i ≡ true) × (is_noted racing j ≡ true))

-- of the lines below a limit, one with which each noted line is settled is settled with all
abbrev pub AreEnoughBelow : GraphValue → ℕ → List Bool → Type 0
AreEnoughBelow g limit racing = (i : ℕ) → i < limit → ((r : ℕ) → is_noted racing r ≡ true → IsSettled g r i) → (j : ℕ) → j < limit → IsSettled g i j

-- a line with which each noted line is settled is settled with all lines
abbrev pub AreEnough : GraphValue → List Bool → Type 0
AreEnough g racing = (i : ℕ) → ((r : ℕ) → is_noted racing r ≡ true → IsSettled g r i) → (j : ℕ) → IsSettled g i j

-- no two lines below a limit race
abbrev pub AreSettledBelow : GraphValue → ℕ → Type 0
AreSettledBelow g limit = (i j : ℕ) → i < limit → j < limit → IsSettled g i j
