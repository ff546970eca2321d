-- Lines that two lines both come after.
use Rattle.std.specs.Prelude.{ℕ, ◌+◌, ◌<◌, ◌≤◌, List, length, Option, MatchOption}
use Rattle.graph_terms.specs.declared.verb.Edge.{Edge}
use Rattle.graph_terms.specs.Graph.{GraphValue}
use Rattle.explanations.specs.Paths.{IsPath, IsShortest}
use Rattle.explanations.specs.declared.meetings.Meeting.{Meeting}

-- a line with a shortest path to each of two lines, and no line has paths to both that have fewer edges together
pub record IsNearestCommon (g : GraphValue) (i j : ℕ) (m : Meeting) : Type 0 where
  pub to_first : IsShortest g m.line i m.to_first.items
  pub to_second : IsShortest g m.line j m.to_second.items
  pub nearest : (k : ℕ) (p q : List Edge) → IsPath g k i p → IsPath g k j q → length m.to_first.items + length m.to_second.items ≤ length p + length q

-- of the lines below n that count in both ways the one whose counts have the least sum
abbrev pub IsLeastBelow : (ℕ → ℕ) → (ℕ → ℕ) → ℕ → Option ℕ → Type 0
IsLeastBelow ones others n found = MatchOption found ((k : ℕ) → k < n → 0 < ones k → 0 < others k → ⊥)
    (λ l. (l < n) × (0 < ones l) × (0 < others l) × ((k : ℕ) → k < n → 0 < ones k → 0 < others k → ones l + others l ≤ ones k + others k))
