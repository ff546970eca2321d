-- Which lines are ready, and how many edges a line waits for, by the lines that have ended.
use Rattle.std.specs.Prelude.{◌≡◌, ℕ, ◌<◌, ◌==◌, nat_lt, Bool, true, false, not, ◌&&◌, ◌||◌, List, length, filter, slice_index}
use Rattle.graph_terms.specs.declared.verb.Edge.{Edge}
use Rattle.graph_terms.specs.Graph.{GraphValue, never_comes}
use Rattle.graph_terms.specs.Edges.{edges, edges_into}

-- how many edges enter a line from lines that have not ended
abbrev pub open_edges : GraphValue → (ℕ → Bool) → ℕ → ℕ
open_edges g ended i = length (filter (λ (e : Edge). (e.to == i) && not (ended e.from)) (edges g))

-- how many of these edges enter a line
abbrev pub count_into : ℕ → List Edge → ℕ
count_into i es = length (filter (λ (e : Edge). e.to == i) es)

-- one more line that has ended
abbrev pub and_ended : (ℕ → Bool) → ℕ → ℕ → Bool
and_ended ended line i = ended i || (line == i)

-- a line that waits for nothing from the start on
abbrev pub starts_ready : GraphValue → ℕ → Bool
starts_ready g i = not (never_comes g i) && (length (edges_into g i) == 0)

-- a line that has not ended, may come, and waits for no edge
abbrev pub is_free : GraphValue → (ℕ → Bool) → List ℕ → ℕ → Bool
is_free g ended left i = nat_lt i (length g.lines) && (not (ended i) && (not (never_comes g i) && (slice_index left i == 0)))

-- left has the number of edges that each line waits for, and the lines of ready are those that may end
pub record IsWaiting (g : GraphValue) (ended : ℕ → Bool) (left : List ℕ) (ready : ℕ → Bool) : Type 0 where
  pub lines : length left ≡ length g.lines
  pub counts : (i : ℕ) → i < length g.lines → slice_index left i ≡ open_edges g ended i
  pub ready_are : (i : ℕ) → ready i ≡ is_free g ended left i
  pub closed : (i : ℕ) → ended i ≡ true → open_edges g ended i ≡ 0

-- the same, where a line that waits for nothing has just ended and its edges have not passed
pub record IsFree (g : GraphValue) (ended : ℕ → Bool) (line : ℕ) (left : List ℕ) (ready : ℕ → Bool) : Type 0 where
  pub lines : length left ≡ length g.lines
  pub counts : (i : ℕ) → i < length g.lines → slice_index left i ≡ open_edges g ended i
  pub ready_are : (i : ℕ) → ready i ≡ is_free g (and_ended ended line) left i
  pub closed : (i : ℕ) → and_ended ended line i ≡ true → open_edges g ended i ≡ 0
  pub was_left : ended line ≡ false
