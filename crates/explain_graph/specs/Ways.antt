-- Ways to lines.
use Rattle.std.specs.Prelude.{◌≡◌, ℕ, ◌<◌, ◌≤◌, ◌⊎◌, List, map, filter_map, length, Option, Some, None, Contains}
use Rattle.std.specs.List.{slice_index_or}
use Rattle.std.specs.Option.{option_map_or, option_and_then}
use Rattle.graph_terms.specs.declared.verb.Edge.{Edge}
use Rattle.explanations.specs.Paths.{Leads}
use Rattle.explanations.specs.Reaches.{reach_at, AreLinked}
use Rattle.explanations.specs.declared.reaches.Reach.{Reach}
use Rattle.explain_graph.specs.declared.ways.Way.{Way}

-- the line is reached from the start, and the path leads there by as many edges
pub record IsWay (reaches : List (Option Reach)) (w : Way) : Type 0 where
  pub reach : Reach
  pub is : reach_at reaches w.line ≡ Some reach
  pub start : w.start ≡ reach.start
  pub path : (all : List Edge) → AreLinked all reaches → Leads all w.start w.line w.path.items × (length w.path.items ≡ reach.steps)

-- of the lines below number n to which edges lead from line k: none, or the farthest, and the topmost of those
abbrev pub IsFarthestTo : List (Option Reach) → ℕ → ℕ → Option ℕ → Type 0
IsFarthestTo reaches n k None = (j : ℕ) (m : Reach) → j < n → reach_at reaches j ≡ Some m → m.start ≡ k → m.steps ≡ 0
IsFarthestTo reaches n k (Some i) = (i < n) × (r : Reach) × (reach_at reaches i ≡ Some r) × (r.start ≡ k) × (0 < r.steps)
    × ((j : ℕ) (m : Reach) → j < n → reach_at reaches j ≡ Some m → m.start ≡ k → (m.steps < r.steps) ⊎ ((m.steps ≡ r.steps) × (i ≤ j)))

-- how many edges lead to a line, none where there is no line
abbrev pub steps_to : List (Option Reach) → Option ℕ → ℕ
steps_to reaches o = option_map_or (λ (m : Reach). m.steps) (option_and_then (reach_at reaches) o) 0

-- for each line with which ways begin, by their numbers, the farthest line, where there is one
pub record AreFarthest (reaches : List (Option Reach)) (n : ℕ) (farthest : List (Option ℕ)) : Type 0 where
  pub size : length farthest ≡ length reaches
  pub each : (k : ℕ) → k < length reaches → IsFarthestTo reaches n k (slice_index_or farthest k None)

abbrev pub itself : Option ℕ → Option ℕ
itself o = o

-- the ways to these lines, in their order
pub record AreLongest (reaches : List (Option Reach)) (ways : List Way) : Type 0 where
  pub farthest : List (Option ℕ)
  pub are_farthest : AreFarthest reaches (length reaches) farthest
  pub lines : map (λ (w : Way). w.line) ways ≡ filter_map itself farthest
  pub each : (w : Way) → Contains ways w → IsWay reaches w
