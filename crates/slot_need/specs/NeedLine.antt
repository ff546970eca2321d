-- At which line the need of a graph is reached.
use Rattle.std.specs.Prelude.{◌≡◌, ℕ, ◌+◌, ◌<◌, List, length, slice_index}
use Rattle.graph_terms.specs.Graph.{GraphValue}
use Rattle.graph_meaning.specs.Need.{IsHigh, open_at}

-- line k is the topmost one at which n lines may be open: itself, and those above it whose high numbers are above k
pub record IsNeedLine (g : GraphValue) (n k : ℕ) : Type 0 where
  pub highs : List ℕ
  pub each_line : length highs ≡ length g.lines
  pub high : (i : ℕ) → i < length g.lines → IsHigh g i (slice_index highs i)
  pub known : k < length g.lines
  pub reached : n ≡ 1 + open_at highs k
  pub topmost : (j : ℕ) → j < k → n ≡ 1 + open_at highs j → ⊥
