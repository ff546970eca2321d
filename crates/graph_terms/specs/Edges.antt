-- The edges of a graph, by the lines that give them. An edge goes from the line that comes first to the line that waits.
use Rattle.std.specs.Prelude.{ℕ, ◌+◌, ◌==◌, Bool, cond, List, [], ◌∷◌, ◌++◌, length, map, filter, Option, Some, None, ◌≤◌}
use Rattle.graph_terms.specs.declared.verb.Line.{Line}
use Rattle.graph_terms.specs.declared.verb.Edge.{Edge}
use Rattle.graph_terms.specs.declared.verb.EdgeKind.{EdgeKind}
use Rattle.graph_terms.specs.declared.verb.EdgeKind.TheVariants.{Passes, Ignores, Faults}
use Rattle.graph_terms.specs.declared.verb.Verb.{Verb}
use Rattle.graph_terms.specs.declared.verb.Verb.TheVariants.{Trigger, Cancel, Merge, MergeIgnore, Phase, Arrive}
use Rattle.graph_terms.specs.Graph.{GraphValue, is_phase_of}

abbrev pub edge : ℕ → ℕ → EdgeKind → Edge
edge from to kind = record { «from» = from; «to» = to; «kind» = kind }

-- the number of the last line that passes, the first line having number n
abbrev pub last_place : (Verb → Bool) → ℕ → List Line → Option ℕ → Option ℕ
last_place test n [] found = found
last_place test n (l ∷ ls) found = last_place test (n + 1) ls (cond (test l.verb) (Some n) found)

-- the edge from a line that may be there
abbrev pub edges_from_some : EdgeKind → Option ℕ → ℕ → List Edge
edges_from_some kind None i = []
edges_from_some kind (Some e) i = edge e i kind ∷ []

-- the edges that line i gives by what it does, after these lines
abbrev pub verb_edges : List Line → ℕ → Verb → List Edge
verb_edges before i (Merge events) = map (λ e. edge e i Passes) events
verb_edges before i (MergeIgnore events) = map (λ e. edge e i Ignores) events
verb_edges before i (Trigger u) = edge i u Passes ∷ []
verb_edges before i (Cancel u) = edge i u Faults ∷ []
verb_edges before i (Arrive p value weight) = edge i p Passes ∷ []
verb_edges before i (Phase b) = edges_from_some Ignores (last_place (is_phase_of b) 0 before None) i
verb_edges before i _ = []

-- the edges of the events behind `on`, in order
abbrev pub on_edges : List ℕ → ℕ → List Edge
on_edges on i = map (λ e. edge e i Passes) on

-- the edges that the line after these lines gives
abbrev pub line_edges : List Line → Line → List Edge
line_edges before l = on_edges l.on (length before) ++ verb_edges before (length before) l.verb

-- the edges of lines that stand after others
abbrev pub edges_after : List Line → List Line → List Edge
edges_after before [] = []
edges_after before (l ∷ ls) = line_edges before l ++ edges_after (before ++ l ∷ []) ls

-- the edges of a graph, by the line that gives them
abbrev pub edges : GraphValue → List Edge
edges g = edges_after [] g.lines

-- the edges that enter a line, and those that leave it, in the same order
abbrev pub edges_into : GraphValue → ℕ → List Edge
edges_into g i = filter (λ e. e.to == i) (edges g)

abbrev pub edges_out_of : GraphValue → ℕ → List Edge
edges_out_of g i = filter (λ e. e.from == i) (edges g)

-- the lines that a line waits for
abbrev pub sources : GraphValue → ℕ → List ℕ
sources g i = map (λ (e : Edge). e.from) (edges_into g i)

-- both ends of an edge are at most a number
abbrev pub EndsUpTo : ℕ → Edge → Type 0
EndsUpTo n e = (e.from ≤ n) × (e.to ≤ n)
