-- Searches from some lines along edges, and what they leave: for each line how many lines stand on the way to it, where that way begins, and its last edge.
use Rattle.std.specs.Prelude.{◌≡◌, ◌≢◌, ℕ, ◌+◌, ◌-◌, ◌<◌, ◌≤◌, ◌==◌, ◌⊎◌, Bool, true, false, cond, List, [], ◌∷◌, length, filter, Contains, slice_index, Option, Some, None, MatchOption}
use Rattle.std.specs.List.{slice_index_or}
use Rattle.graph_terms.specs.declared.verb.Edge.{Edge}
use Rattle.graph_terms.specs.declared.outcome.End.{End}
use Rattle.explanations.specs.declared.reaches.Reach.{Reach}
use Rattle.explanations.specs.declared.search.Origin.{Origin}
use Rattle.explanations.specs.declared.search.Way.{Way}
use Rattle.explanations.specs.declared.search.Way.TheVariants.{Onward, Back, Faults}
use Rattle.graph_terms.specs.Graph.{GraphValue, never_comes}
use Rattle.explanations.specs.Reaches.{carries, end_at, begins_fault}

-- the ends of an edge as a search in this way comes to them
abbrev pub near_end : Way → Edge → ℕ
near_end Onward e = e.from
near_end Back e = e.to
near_end Faults e = e.from

abbrev pub far_end : Way → Edge → ℕ
far_end Onward e = e.to
far_end Back e = e.from
far_end Faults e = e.to

-- whether it follows an edge, by the ends of lines, and those of some edges that it follows
abbrev pub follows : Way → List End → Edge → Bool
follows Onward ends e = true
follows Back ends e = true
follows Faults ends e = carries ends e

abbrev pub way_edges : Way → List End → List Edge → List Edge
way_edges Onward ends es = es
way_edges Back ends es = es
way_edges Faults ends es = filter (carries ends) es

-- the lines with which a search that goes onward begins
abbrev pub is_start : Way → GraphValue → List End → ℕ → Bool
is_start Onward g ends i = never_comes g i
is_start Faults g ends i = begins_fault g (end_at ends i) i
is_start Back g ends i = false

-- each start counts 1, and each other line that edges lead to one more than the one of least count before it; the others count 0
pub record AreCounts (all : List Edge) (near far : Edge → ℕ) (start : ℕ → Type 0) (counts : ℕ → ℕ) : Type 0 where
  pub starts : (i : ℕ) → start i → counts i ≡ 1
  pub found : (i : ℕ) → 0 < counts i → (start i × (counts i ≡ 1)) ⊎ ((e : Edge) × Contains all e × (far e ≡ i) × (0 < counts (near e)) × (counts i ≡ counts (near e) + 1))
  pub closed : (e : Edge) → Contains all e → 0 < counts (near e) → (0 < counts (far e)) × (counts (far e) ≤ counts (near e) + 1)

-- where the way to a line begins, and its last edge
abbrev pub no_origin : Origin
no_origin = record { start = 0; by = None }

abbrev pub origin_at : List Origin → ℕ → Origin
origin_at origins i = slice_index_or origins i no_origin

-- the origin of a line that counts so: a start begins the way to itself, and any other line was found by an edge from a line that counts one less, and has its start
abbrev pub IsOrigin : List Edge → (Edge → ℕ) → (Edge → ℕ) → List ℕ → List ℕ → List Origin → ℕ → ℕ → Origin → Type 0
IsOrigin all near far starts counts origins i count o = (Contains starts i × (count ≡ 1) × (o ≡ record { start = i; by = None }))
    ⊎ ((e : Edge) × Contains all e × (far e ≡ i) × (0 < slice_index counts (near e)) × (count ≡ slice_index counts (near e) + 1) × (o ≡ record { start = (origin_at origins (near e)).start; by = Some e }))

-- of each line that counts
pub record AreOrigins (all : List Edge) (near far : Edge → ℕ) (starts counts : List ℕ) (origins : List Origin) : Type 0 where
  pub size : length origins ≡ length counts
  pub each : (i : ℕ) → 0 < slice_index counts i → IsOrigin all near far starts counts origins i (slice_index counts i) (origin_at origins i)

-- how a line with this count and this origin is reached
abbrev pub reach_of : ℕ → Origin → Option Reach
reach_of count o = cond (count == 0) None (Some (record { start = o.start; steps = count - 1; by = o.by }))

-- one of these edges has its far end at line i
abbrev pub IsFarEnd : List Edge → (Edge → ℕ) → ℕ → Type 0
IsFarEnd all far i = (e : Edge) × Contains all e × (far e ≡ i)

-- and its near end at a line of the list
abbrev pub IsFarEndOfSome : List Edge → (Edge → ℕ) → (Edge → ℕ) → List ℕ → ℕ → Type 0
IsFarEndOfSome all near far lines i = (e : Edge) × Contains all e × Contains lines (near e) × (far e ≡ i)

-- of these edges the one whose near end counts least, of those that count
abbrev pub IsNearest : (Edge → ℕ) → (ℕ → ℕ) → List Edge → Option Edge → Type 0
IsNearest near counts es found = MatchOption found ((e : Edge) → Contains es e → counts (near e) ≡ 0)
    (λ b. Contains es b × (0 < counts (near b)) × ((e : Edge) → Contains es e → 0 < counts (near e) → counts (near b) ≤ counts (near e)))

-- the edges lead back from line i to line s, against the way of the search
abbrev pub LeadsBack : List Edge → (Edge → ℕ) → (Edge → ℕ) → ℕ → ℕ → List Edge → Type 0
LeadsBack all near far i s [] = i ≡ s
LeadsBack all near far i s (e ∷ rest) = Contains all e × (far e ≡ i) × LeadsBack all near far (near e) s rest

-- one or more edges back to a start, no more than the least count asks for
pub record IsTrail (all : List Edge) (near far : Edge → ℕ) (counts : ℕ → ℕ) (i : ℕ) (p : List Edge) : Type 0 where
  pub some : 0 < length p
  pub start : ℕ
  pub first : counts start ≡ 1
  pub leads : LeadsBack all near far i start p
  pub least : (e : Edge) → Contains all e → far e ≡ i → 0 < counts (near e) → length p ≤ counts (near e)

-- a search from a line found another line
abbrev pub IsFound : List ℕ → ℕ → ℕ → Type 0
IsFound counts line other = (other ≢ line) × (0 < slice_index counts other)
