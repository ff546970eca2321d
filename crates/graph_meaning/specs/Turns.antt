-- Lines that are ready, and the turns at which the steps of an evaluation end them.
use Rattle.std.specs.Prelude.{◌≡◌, ℕ, ◌<◌, Bool, true, false, List, Contains, length, ◌∷◌, ◌++◌, ◌⊎◌}
use Rattle.graph_terms.specs.declared.verb.Edge.{Edge}
use Rattle.graph_terms.specs.Graph.{GraphValue, never_comes}
use Rattle.graph_terms.specs.Edges.{edges}
use Rattle.graph_meaning.specs.Evaluation.{Step, has_ended, is_ended, end_in, changes_in, step_with, cells_with, is_cancelled, step_by, evaluation_with, end_with, changes_with}
use Rattle.graph_meaning.specs.Effect.{Cells, Effects}
use Rattle.graph_meaning.specs.Path.{Path}

-- a line below n that has not ended, comes, and whose sources have ended
pub record IsReadyLine (es : List Edge) (n : ℕ) (never ended : ℕ → Bool) (k : ℕ) : Type 0 where
  pub below : k < n
  pub left : ended k ≡ false
  pub comes : never k ≡ false
  pub sources : (e : Edge) → Contains es e → e.to ≡ k → ended e.from ≡ true

-- the sources of each edge are lines of the graph
abbrev pub EdgesInRange : GraphValue → Type 0
EdgesInRange g = (e : Edge) → Contains (edges g) e → e.from < length g.lines

-- what a ready line is
pub record Ready (g : GraphValue) (ss : List Step) (i : ℕ) : Type 0 where
  pub below : i < length g.lines
  pub left : has_ended ss i ≡ false
  pub comes : never_comes g i ≡ false
  pub sources : (e : Edge) → Contains (edges g) e → e.to ≡ i → has_ended ss e.from ≡ true

-- each line that has ended comes, and its sources have ended
pub record EndsInOrder (g : GraphValue) (ss : List Step) : Type 0 where
  pub each : (i : ℕ) → has_ended ss i ≡ true → (i < length g.lines) × (never_comes g i ≡ false) × ((e : Edge) → Contains (edges g) e → e.to ≡ i → has_ended ss e.from ≡ true)

-- each step has an end
abbrev pub StepsEnd : List Step → Type 0
StepsEnd ss = (s : Step) → Contains ss s → is_ended s.ends ≡ true

-- the turn of a line among steps: what stood before it, and what the line did
pub record IsTurn (does : Effects) (first : Cells) (g : GraphValue) (ss : List Step) (i : ℕ) (before : List Step) : Type 0 where
  pub ready : Ready g before i
  pub ordered : EndsInOrder g before
  pub after : List Step
  pub parts : ss ≡ before ++ step_with does first g before i ∷ after
  pub end_is : end_in ss i ≡ (step_with does first g before i).ends
  pub changes_are : changes_in ss i ≡ (step_with does first g before i).changes
  pub sources_same : (e : Edge) → Contains (edges g) e → e.to ≡ i → end_in ss e.from ≡ end_in before e.from

-- each line that has ended had its turn
abbrev pub HaveTurns : Effects → Cells → GraphValue → List Step → Type 0
HaveTurns does first g ss = (i : ℕ) → has_ended ss i ≡ true → (before : List Step) × IsTurn does first g ss i before × ((e : Edge) → Contains (edges g) e → e.to ≡ i → has_ended ss e.from ≡ true)

-- In the evaluation the end and the changes of a line are those of its effect on the cells at its turn, unless its sources' ends cancel it.
pub record EndsByTurn (does : Effects) (first : Cells) (g : GraphValue) (i : ℕ) : Type 0 where
  pub before : List Step
  pub after : List Step
  pub parts : evaluation_with does first g ≡ before ++ step_by i (is_cancelled g (evaluation_with does first g) i) (does i (cells_with first before)) ∷ after
  pub end_is : end_with does first g i ≡ (step_by i (is_cancelled g (evaluation_with does first g) i) (does i (cells_with first before))).ends
  pub changes_are : changes_with does first g i ≡ (step_by i (is_cancelled g (evaluation_with does first g) i) (does i (cells_with first before))).changes

-- a line that never comes is i, or has a path to it
abbrev pub NeverReaches : List Edge → (ℕ → Bool) → ℕ → Type 0
NeverReaches es never i = (never i ≡ true) ⊎ ((j : ℕ) × (never j ≡ true) × Path es j i)

-- a ready line is i or has a path to it, or a line that never comes does
abbrev pub ReadyOrNever : List Edge → ℕ → (ℕ → Bool) → (ℕ → Bool) → ℕ → Type 0
ReadyOrNever es n never ended i = ((k : ℕ) × IsReadyLine es n never ended k × ((k ≡ i) ⊎ Path es k i)) ⊎ NeverReaches es never i
