-- An order of the lines in which each edge goes forward, as far as there is one.
use Rattle.std.specs.Prelude.{◌≡◌, ℕ, ◌+◌, ◌<◌, ◌≤◌, ◌==◌, Bool, not, ◌&&◌, List, [], length, take, Contains, slice_index, count_by}
use Rattle.std.specs.List.{list_any}
use Rattle.graph_terms.specs.declared.verb.Edge.{Edge}
use Rattle.graph_terms.specs.Graph.{GraphValue}
use Rattle.graph_terms.specs.Edges.{edges, edges_into}
use Rattle.basics.specs.Lists.{count_below}

-- a number is in a list
abbrev pub is_in : List ℕ → ℕ → Bool
is_in xs x = list_any (λ y. x == y) xs

-- an edge into line i from a line that is not in the list
abbrev pub awaits : ℕ → List ℕ → Edge → Bool
awaits i taken e = (e.to == i) && not (is_in taken e.from)

-- lines listed in order, of which some have been taken, and the edges that are left of the last one taken; `left i` counts what line i waits for
pub record IsTaking (g : GraphValue) (order : List ℕ) (left : ℕ → ℕ) (taken : ℕ) (rest : List Edge) : Type 0 where
  pub within : taken ≤ length order
  pub lines : (i : ℕ) → Contains order i → i < length g.lines
  pub distinct : (p q : ℕ) → p < q → q < length order → slice_index order p ≡ slice_index order q → ⊥
  pub counts : (i : ℕ) → left i ≡ count_by (awaits i (take taken order)) (edges g) + count_by (λ (e : Edge). e.to == i) rest
  pub listed : (i : ℕ) → i < length g.lines → left i ≡ 0 → Contains order i
  pub waited : (i : ℕ) → Contains order i → left i ≡ 0
  pub before : (p : ℕ) → p < length order → (e : Edge) → Contains (edges g) e → e.to ≡ slice_index order p → Contains (take p order) e.from

-- an order without repeats has room for the lines that it lacks, so it is no longer than the lines
abbrev pub HasRoom : GraphValue → List ℕ → Type 0
HasRoom g order = count_below (λ i. not (is_in order i)) (length g.lines) + length order ≤ length g.lines

-- an order whose lines have all been taken: it has the lines that wait for no line out of it
abbrev pub IsOrdered : GraphValue → List ℕ → List ℕ → Type 0
IsOrdered g order left = (length left ≡ length g.lines) × IsTaking g order (slice_index left) (length order) []

-- the first lines are counted, and those that wait for nothing are listed
pub record IsCounted (g : GraphValue) (order left : List ℕ) (i : ℕ) : Type 0 where
  pub size : length left ≡ i
  pub degrees : (k : ℕ) → k < i → slice_index left k ≡ length (edges_into g k)
  pub free : (k : ℕ) → Contains order k → (k < i) × (slice_index left k ≡ 0)
  pub all : (k : ℕ) → k < i → slice_index left k ≡ 0 → Contains order k
  pub distinct : (p q : ℕ) → p < q → q < length order → slice_index order p ≡ slice_index order q → ⊥
