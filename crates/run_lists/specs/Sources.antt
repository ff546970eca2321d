-- What the sources of a line say of it, and the lesser of numbers.
use Rattle.std.specs.Prelude.{◌≡◌, ℕ, ◌≤◌, true, false, nat_lt, cond, List, Option, Some, None}
use Rattle.graph_terms.specs.Graph.{GraphValue}
use Rattle.run_state.specs.Run.{LineStage, ended}
use Rattle.run_parts.specs.LineEvents.{WaitsFor}

-- j is the least line that i waits for and that has not ended
pub record IsLeastLeft (g : GraphValue) (stages : List LineStage) (i j : ℕ) : Type 0 where
  pub waits : WaitsFor g i j
  pub left : ended stages j ≡ false
  pub least : (k : ℕ) → WaitsFor g i k → ended stages k ≡ false → j ≤ k

-- all lines that i waits for have ended
abbrev pub HasSources : GraphValue → List LineStage → ℕ → Type 0
HasSources g stages i = (j : ℕ) → WaitsFor g i j → ended stages j ≡ true

-- the lesser of a number and another, where there is one
abbrev pub lesser : Option ℕ → ℕ → ℕ
lesser None other = other
lesser (Some one) other = cond (nat_lt one other) one other
