-- How lines are reached from some of them, along shortest paths that can be followed line by line.
use Rattle.std.specs.Prelude.{◌≡◌, ℕ, ◌+◌, ◌≤◌, ◌&&◌, Bool, true, false, List, [], ◌∷◌, length, filter, Contains, Option, Some, None, IsTrue}
use Rattle.std.specs.List.{slice_index_or, list_any}
use Rattle.graph_terms.specs.declared.verb.Edge.{Edge}
use Rattle.graph_terms.specs.declared.verb.EdgeKind.{EdgeKind}
use Rattle.graph_terms.specs.declared.verb.EdgeKind.TheVariants.{Faults}
use Rattle.graph_terms.specs.declared.outcome.End.{End}
use Rattle.graph_terms.specs.declared.outcome.End.TheVariants.{Done, Faulted, Waiting}
use Rattle.graph_terms.specs.Graph.{GraphValue, never_comes}
use Rattle.graph_terms.specs.Edges.{edges, edges_out_of}
use Rattle.graph_meaning.specs.Evaluation.{cancels, is_ended}
use Rattle.explanations.specs.Paths.{Leads}
use Rattle.explanations.specs.declared.reaches.Reach.{Reach}

-- how the line of this number is reached, if it is
abbrev pub reach_at : List (Option Reach) → ℕ → Option Reach
reach_at reaches i = slice_index_or reaches i None

-- the last edge of a list
abbrev pub last_edge : List Edge → Option Edge
last_edge [] = None
last_edge (e ∷ []) = Some e
last_edge (e ∷ f ∷ rest) = last_edge (f ∷ rest)

-- edges lead to line i from the start that is named, in so many steps, the last of them by this edge; and none lead there from any start in fewer
pub record IsReached (all : List Edge) (start : ℕ → Type 0) (i : ℕ) (m : Reach) : Type 0 where
  pub is_start : start m.start
  pub path : (p : List Edge) × Leads all m.start i p × (length p ≡ m.steps) × (last_edge p ≡ m.by)
  pub shortest : (k : ℕ) (q : List Edge) → start k → Leads all k i q → m.steps ≤ length q

-- line by line: a start is reached by no edge, and any other line by an edge from a line that is reached from the same start in one step fewer
pub record AreLinked (all : List Edge) (reaches : List (Option Reach)) : Type 0 where
  pub own : (i : ℕ) (m : Reach) → reach_at reaches i ≡ Some m → m.by ≡ None → (m.start ≡ i) × (m.steps ≡ 0)
  pub linked : (i : ℕ) (m : Reach) (e : Edge) → reach_at reaches i ≡ Some m → m.by ≡ Some e →
      Contains all e × (e.to ≡ i) × ((n : Reach) × (reach_at reaches e.from ≡ Some n) × (m.start ≡ n.start) × (m.steps ≡ n.steps + 1))

-- a line that never comes
abbrev pub IsNever : GraphValue → ℕ → Type 0
IsNever g i = IsTrue (never_comes g i)

-- how a line ended
abbrev pub end_at : List End → ℕ → End
end_at ends i = slice_index_or ends i Waiting

-- an edge by which the line that waits is cancelled
abbrev pub carries : List End → Edge → Bool
carries ends e = cancels e.kind (end_at ends e.from) && is_ended (end_at ends e.to)

abbrev pub fault_edges : GraphValue → List End → List Edge
fault_edges g ends = filter (carries ends) (edges g)

-- an edge that faults by itself
abbrev pub is_faulting : EdgeKind → Bool
is_faulting Faults = true
is_faulting _ = false

-- a line that begins a fault: it faulted, or it is done and cancels an event
abbrev pub begins_fault : GraphValue → End → ℕ → Bool
begins_fault g Faulted i = true
begins_fault g Done i = list_any (λ (e : Edge). is_faulting e.kind) (edges_out_of g i)
begins_fault g _ i = false

abbrev pub IsFault : GraphValue → List End → ℕ → Type 0
IsFault g ends i = IsTrue (begins_fault g (end_at ends i) i)
