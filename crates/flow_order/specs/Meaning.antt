-- The sequential meaning of a flow: its lines one after the other. A line that depends on one that faulted or was cancelled is cancelled.
use Rattle.std.specs.Prelude.{ℕ, zero, suc, ◌==◌, Bool, true, false, not, ◌&&◌, nat_lt, List, [], ◌∷◌, ◌++◌, length, IsTrue}
use Rattle.std.specs.List.{list_any}
use Rattle.index_spaces.specs.Space.{has_point, points}
use Rattle.graph_terms.specs.declared.outcome.End.{End}
use Rattle.graph_terms.specs.declared.outcome.End.TheVariants.{Faulted, Cancelled}
use Rattle.graph_terms.specs.declared.verb.Access.{Access}
use Rattle.graph_terms.specs.declared.verb.Mode.{Mode}
use Rattle.graph_terms.specs.declared.verb.Mode.TheVariants.{Read, Sum}
use Rattle.graph_terms.specs.Graph.{GraphValue, space_at}
use Rattle.graph_terms.specs.Access.{accesses}
use Rattle.graph_meaning.specs.Effect.{Cells, effect}
use Rattle.graph_meaning.specs.Evaluation.{Step, end_in, cells_of, step_by}

-- two uses of a cell whose order counts: not both reads and, where sums commute, not both sums
abbrev pub order_counts : Bool → Mode → Mode → Bool
order_counts commute Read Read = false
order_counts commute Sum Sum = not commute
order_counts commute _ _ = true

-- two accesses of one column at a shared point, whose order counts
abbrev pub accesses_tie : GraphValue → Bool → Access → Access → Bool
accesses_tie f commute a b = (a.column == b.column) && (order_counts commute a.mode b.mode && list_any (has_point (space_at f a.space)) (points (space_at f b.space)))

-- line j depends on line i: i stands above it, and they use a cell in ways whose order counts
abbrev pub depends : GraphValue → Bool → ℕ → ℕ → Bool
depends f commute i j = nat_lt i j && list_any (λ a. list_any (accesses_tie f commute a) (accesses f j)) (accesses f i)

abbrev pub is_lost : End → Bool
is_lost Faulted = true
is_lost Cancelled = true
is_lost _ = false

-- a line depends on one of these that is lost
abbrev pub is_spoiled : GraphValue → Bool → List Step → ℕ → Bool
is_spoiled f commute ss j = list_any (λ (s : Step). is_lost s.ends && depends f commute s.line j) ss

-- what line j does after the lines above it
abbrev pub flow_step : GraphValue → Bool → List Step → ℕ → Step
flow_step f commute ss j = step_by j (is_spoiled f commute ss j) (effect f j (cells_of ss))

-- the first n lines, one after the other
abbrev pub flow_steps : GraphValue → Bool → ℕ → List Step
flow_steps f commute zero = []
flow_steps f commute (suc n) = flow_steps f commute n ++ flow_step f commute (flow_steps f commute n) n ∷ []

abbrev pub meaning : GraphValue → Bool → List Step
meaning f commute = flow_steps f commute (length f.lines)

abbrev pub flow_end : GraphValue → Bool → ℕ → End
flow_end f commute i = end_in (meaning f commute) i

abbrev pub flow_cells : GraphValue → Bool → Cells
flow_cells f commute = cells_of (meaning f commute)

-- lines each of which depends on the one before it lead from one line to another
pub data Chain (f : GraphValue) (commute : Bool) : ℕ → ℕ → Type 0 where
  last : {i j : ℕ} → IsTrue (depends f commute i j) → Chain f commute i j
  first : {i k j : ℕ} → IsTrue (depends f commute i k) → Chain f commute k j → Chain f commute i j
