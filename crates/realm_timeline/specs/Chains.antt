-- Chains of planned lines, and the critical one.
use Rattle.std.specs.Prelude.{◌≡◌, ℕ, ◌≤◌, List, [], ◌∷◌, ◌++◌, sum_by, Contains}
use Rattle.graph_terms.specs.declared.verb.Edge.{Edge}
use Rattle.graph_terms.specs.Graph.{GraphValue}
use Rattle.graph_terms.specs.Edges.{edges}
use Rattle.realm_timeline.specs.Plan.{Planned, cost}

-- an edge leads from one line to another
abbrev pub HasEdge : GraphValue → ℕ → ℕ → Type 0
HasEdge g i j = (e : Edge) × Contains (edges g) e × (e.from ≡ i) × (e.to ≡ j)

-- a chain: planned lines, each but the first with an edge from the line before it
abbrev pub IsChain : GraphValue → List ℕ → Type 0
IsChain g [] = Unit {0}
IsChain g (i ∷ []) = Planned g i
IsChain g (i ∷ j ∷ rest) = Planned g i × HasEdge g i j × IsChain g (j ∷ rest)

-- the costs of the lines of a chain, added up
abbrev pub chain_cost : GraphValue → List ℕ → ℕ
chain_cost g c = sum_by (cost g) c

-- the critical chain: the costliest, of those the one with the lowest last line, and then, from the end on, with the lowest line that keeps the sum
pub record IsCritical (g : GraphValue) (c : List ℕ) : Type 0 where
  pub chain : IsChain g c
  pub costliest : (d : List ℕ) → IsChain g d → chain_cost g d ≤ chain_cost g c
  pub last : (front : List ℕ) (i : ℕ) → c ≡ front ++ i ∷ [] →
      (d : List ℕ) (k : ℕ) → IsChain g (d ++ k ∷ []) → chain_cost g (d ++ k ∷ []) ≡ chain_cost g c → i ≤ k
  pub before : (front : List ℕ) (j i : ℕ) (behind : List ℕ) → c ≡ (front ++ j ∷ []) ++ i ∷ behind →
      (d : List ℕ) (k : ℕ) → IsChain g (d ++ k ∷ []) → HasEdge g k i → chain_cost g (d ++ k ∷ []) ≡ chain_cost g (front ++ j ∷ []) → j ≤ k
