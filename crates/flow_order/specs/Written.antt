-- What the graph written for a flow is: its lines in their order with names and verbs, and lines beside them that order them as the flow means.
use Rattle.std.specs.Prelude.{◌≡◌, ℕ, ◌<◌, ◌⊎◌, ◌↔◌, Bool, true, false, not, List, ◌++◌, length, IsTrue, Some, slice_get}
use Rattle.std.specs.List.{AllByRecursion}
use Rattle.graph_terms.specs.declared.decl.Decl.{Decl}
use Rattle.graph_terms.specs.declared.decl.Decl.TheVariants.{Lock}
use Rattle.graph_terms.specs.declared.verb.Line.{Line}
use Rattle.graph_terms.specs.declared.verb.Verb.{Verb}
use Rattle.graph_terms.specs.declared.verb.Verb.TheVariants.{Merge, MergeIgnore, Acquire, Release}
use Rattle.graph_terms.specs.Graph.{GraphValue}
use Rattle.graph_meaning.specs.Path.{HasPath}
use Rattle.graph_meaning.specs.Rules.{Accepted}
use Rattle.graph_terms.specs.Fits.{IsGraph}
use Rattle.graph_meaning.specs.Evaluation.{evaluation, eval_end, cells_of}
use Rattle.flow_order.specs.Meaning.{Chain, flow_end, flow_cells}

abbrev pub IsLock : Decl → Type 0
IsLock d = (name : List ℕ) × (d ≡ Lock name)

-- a verb of the lines that are put beside those of the flow
abbrev pub orders_alone : Verb → Bool
orders_alone (Merge events) = true
orders_alone (MergeIgnore events) = true
orders_alone (Acquire l shared) = not shared
orders_alone (Release q) = true
orders_alone _ = false

-- each line i of the flow stands at place i, in the same order and with the same name and verb; the other lines only order; reservations may follow the declarations
pub record Keeps (f g : GraphValue) (place : ℕ → ℕ) : Type 0 where
  pub format : g.format ≡ f.format
  pub locks : List Decl
  pub decls : g.decls ≡ f.decls ++ locks
  pub only_locks : AllByRecursion IsLock locks
  pub ascends : (i j : ℕ) → i < j → j < length f.lines → place i < place j
  pub line : (i : ℕ) (l : Line) → slice_get f.lines i ≡ Some l → (m : Line) × (slice_get g.lines (place i) ≡ Some m) × (m.name ≡ l.name) × (m.verb ≡ l.verb)
  pub others : (k : ℕ) (m : Line) → slice_get g.lines k ≡ Some m → ((i : ℕ) × (i < length f.lines) × (place i ≡ k)) ⊎ IsTrue (orders_alone m.verb)

-- the graph means what the flow means, and orders no more than it must
pub record MeansFlow (f : GraphValue) (commute : Bool) (g : GraphValue) : Type 0 where
  pub place : ℕ → ℕ
  pub keeps : Keeps f g place
  pub fits : IsGraph g
  pub accepted : Accepted g
  pub ends : (i : ℕ) → i < length f.lines → eval_end g (place i) ≡ flow_end f commute i
  pub cells : (c p : ℕ) → cells_of (evaluation g) c p ≡ flow_cells f commute c p
  pub orders : (i j : ℕ) → i < length f.lines → j < length f.lines → HasPath g (place i) (place j) ↔ Chain f commute i j
