-- The costliest chain up to each line, as tables that are filled in the order of the lines.
use Rattle.std.specs.Prelude.{◌≡◌, ℕ, ◌+◌, ◌*◌, ◌<◌, ◌≤◌, ◌⊎◌, List, [], ◌∷◌, ◌++◌, length, take, Contains, Option, Some, None, slice_index, slice_set, MatchOption}
use Rattle.std.specs.List.{slice_index_or}
use Rattle.graph_terms.specs.declared.verb.Edge.{Edge}
use Rattle.graph_terms.specs.Graph.{GraphValue}
use Rattle.graph_terms.specs.Edges.{edges_into}
use Rattle.realm_timeline.specs.Plan.{cost}
use Rattle.realm_timeline.specs.Chains.{HasEdge, IsChain, chain_cost}

-- h is the cost of the costliest chain that ends in line i
pub record IsCostliestTo (g : GraphValue) (i h : ℕ) : Type 0 where
  pub front : List ℕ
  pub chain : IsChain g (front ++ i ∷ [])
  pub cost : chain_cost g (front ++ i ∷ []) ≡ h
  pub most : (d : List ℕ) → IsChain g (d ++ i ∷ []) → chain_cost g (d ++ i ∷ []) ≤ h

-- the costliest of the sources of some edges into a line, the lowest of those, with its cost
pub record IsBest (chain_costs : ℕ → ℕ) (es : List Edge) (from h : ℕ) : Type 0 where
  pub edge : Edge
  pub listed : Contains es edge
  pub source : edge.from ≡ from
  pub cost : chain_costs from ≡ h
  pub most : (e : Edge) → Contains es e → chain_costs e.from ≤ h
  pub lowest : (e : Edge) → Contains es e → chain_costs e.from ≡ h → from ≤ e.from

-- the same, and none where there is no edge
abbrev pub IsBestOf : (ℕ → ℕ) → List Edge → Option (ℕ × ℕ) → Type 0
IsBestOf chain_costs es best = MatchOption best ((e : Edge) → Contains es e → ⊥) (λ b. IsBest chain_costs es b.0 b.1)

-- the entry of a line in the table of costs
abbrev pub chain_cost_at : List ℕ → ℕ → ℕ
chain_cost_at chain_costs i = slice_index chain_costs i

-- the entry of a line in the table of the lines before
abbrev pub before_at : List (Option ℕ) → ℕ → Option ℕ
before_at before i = slice_index_or before i None

-- the line before a line in its costliest chain: the costliest source, the lowest of those, and none where it has no source
abbrev pub IsBefore : GraphValue → List ℕ → ℕ → Option ℕ → Type 0
IsBefore g chain_costs i None = ((j : ℕ) → HasEdge g j i → ⊥) × (chain_cost_at chain_costs i ≡ cost g i)
IsBefore g chain_costs i (Some k) = HasEdge g k i × (chain_cost_at chain_costs i ≡ chain_cost_at chain_costs k + cost g i) × ((j : ℕ) → HasEdge g j i → chain_cost_at chain_costs j ≤ chain_cost_at chain_costs k) × ((j : ℕ) → HasEdge g j i → chain_cost_at chain_costs j ≡ chain_cost_at chain_costs k → k ≤ j)

-- the tables once the first n lines of an order have their entries
pub record AreChainCosts (g : GraphValue) (order : List ℕ) (chain_costs : List ℕ) (before : List (Option ℕ)) (n : ℕ) : Type 0 where
  pub cost_count : length chain_costs ≡ length g.lines
  pub before_count : length before ≡ length g.lines
  pub each : (i : ℕ) → Contains (take n order) i → IsCostliestTo g i (chain_cost_at chain_costs i) × IsBefore g chain_costs i (before_at before i)
  pub none : (i : ℕ) → (Contains (take n order) i → ⊥) → chain_cost_at chain_costs i ≡ 0
  pub few : (i : ℕ) → chain_cost_at chain_costs i ≤ 68719476736 * n

-- in a list each line but the first has the one before it as its entry in the table
abbrev pub IsLinked : List (Option ℕ) → List ℕ → Type 0
IsLinked before [] = Unit {0}
IsLinked before (i ∷ []) = Unit {0}
IsLinked before (i ∷ j ∷ rest) = (before_at before j ≡ Some i) × IsLinked before (j ∷ rest)

-- of the first n lines the one whose chain is the costliest, the lowest of those
pub record IsTop (chain_costs : List ℕ) (n i : ℕ) : Type 0 where
  pub known : i < n
  pub some : 0 < chain_cost_at chain_costs i
  pub most : (k : ℕ) → k < n → chain_cost_at chain_costs k ≤ chain_cost_at chain_costs i
  pub lowest : (k : ℕ) → k < n → chain_cost_at chain_costs k ≡ chain_cost_at chain_costs i → i ≤ k

-- the same, and none where no line has a chain
abbrev pub IsTopOf : List ℕ → ℕ → Option ℕ → Type 0
IsTopOf chain_costs n top = MatchOption top ((k : ℕ) → k < n → chain_cost_at chain_costs k ≡ 0) (IsTop chain_costs n)

-- a list whose last line is this one
abbrev pub EndsWith : List ℕ → ℕ → Type 0
EndsWith c top = (front : List ℕ) × (c ≡ front ++ top ∷ [])

-- a chain is walked back from its last line: the next line to walk to, and the lines so far
abbrev pub IsWalk : List (Option ℕ) → Option ℕ → Option ℕ → List ℕ → Type 0
IsWalk before None next c = (next ≡ None) × (c ≡ [])
IsWalk before (Some top) (Some i) c = IsLinked before (i ∷ c) × EndsWith (i ∷ c) top
IsWalk before (Some top) None c = IsLinked before c × EndsWith c top × ((i : ℕ) (rest : List ℕ) → c ≡ i ∷ rest → before_at before i ≡ None)

-- the cost of the chain up to the best source, and 0 for none
abbrev pub best_cost : Option (ℕ × ℕ) → ℕ
best_cost None = 0
best_cost (Some b) = b.1

-- the best source
abbrev pub best_line : Option (ℕ × ℕ) → Option ℕ
best_line None = None
best_line (Some b) = Some b.0

-- the entry of a line in the table of costs, and 0 for none
abbrev pub cost_or_0 : List ℕ → Option ℕ → ℕ
cost_or_0 costs None = 0
cost_or_0 costs (Some i) = chain_cost_at costs i

-- a line gets its entries from its costliest source
pub record AddsLine (g : GraphValue) (costs : List ℕ) (before : List (Option ℕ)) (costs' : List ℕ) (before' : List (Option ℕ)) (line : ℕ) : Type 0 where
  pub best : Option (ℕ × ℕ)
  pub is_best : IsBestOf (chain_cost_at costs) (edges_into g line) best
  pub costs_are : costs' ≡ slice_set costs line (best_cost best + cost g line)
  pub before_are : before' ≡ slice_set before line (best_line best)
  pub few : cost g line ≤ 68719476736

-- the line with the costlier chain of two, the lower where the costs are the same
abbrev pub IsBetter : Option (ℕ × ℕ) → ℕ → ℕ → ℕ × ℕ → Type 0
IsBetter None from c r = r ≡ (from, c)
IsBetter (Some b) from c r = ((r ≡ b) × ((c < b.1) ⊎ ((c ≡ b.1) × (b.0 ≤ from)))) ⊎ ((r ≡ (from, c)) × ((b.1 < c) ⊎ ((b.1 ≡ c) × (from < b.0))))

-- none, or a line below n
abbrev pub IsNoneOrBelow : ℕ → Option ℕ → Type 0
IsNoneOrBelow n None = Unit {0}
IsNoneOrBelow n (Some i) = i < n
