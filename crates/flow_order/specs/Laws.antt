-- What holds of graphs whose edges all lead forward.
use Rattle.std.specs.Prelude.{◌≡◌, ℕ, ◌<◌, ◌⊎◌, ◌↔◌, Bool, IsTrue, [], length, Contains, slice_index_or}
use Rattle.basics.specs.Lists.{numbers_below}
use Rattle.graph_terms.specs.declared.format.Format.{Format}
use Rattle.graph_terms.specs.declared.verb.Edge.{Edge}
use Rattle.graph_terms.specs.Graph.{GraphValue, written_in}
use Rattle.graph_terms.specs.Edges.{edges}
use Rattle.graph_meaning.specs.Path.{HasPath}
use Rattle.graph_meaning.specs.Rules.{NoCycleAt, Everywhere, Accepted}
use Rattle.graph_terms.specs.Fits.{IsGraph}
use Rattle.graph_meaning.specs.Evaluation.{order, evaluation, eval_end, cells_of}
use Rattle.flow_order.specs.Flow.{IsFlow}
use Rattle.flow_order.specs.Meaning.{depends, Chain, flow_end, flow_cells}
use Rattle.flow_order.specs.SourceParts.{sources_after}
use Rattle.flow_order.specs.Written.{Keeps, MeansFlow}
use Rattle.flow_order.specs.Sources.{SourcesStand}
use Rattle.flow_order.specs.Orders.{Orders}
use Rattle.flow_order.specs.Sections.{SectionsStand}
use Rattle.flow_order.specs.Forward.{AllForward}

abbrev pub EdgesLeadForward : Type 0
EdgesLeadForward = (g : GraphValue) → IsGraph g → AllForward g → (e : Edge) → Contains (edges g) e → e.from < e.to

abbrev pub PathsLeadForward : Type 0
PathsLeadForward = (g : GraphValue) (i j : ℕ) → IsGraph g → AllForward g → HasPath g i j → i < j

abbrev pub ForwardHasNoCycle : Type 0
ForwardHasNoCycle = (g : GraphValue) → IsGraph g → AllForward g → Everywhere (NoCycleAt g)

-- the evaluation ends the lines in the order of the file
abbrev pub EndsInFileOrder : Type 0
EndsInFileOrder = (g : GraphValue) → IsGraph g → AllForward g → order g ≡ numbers_below (length g.lines)

-- a graph with a flow's lines in their order, whose paths between them are the flow's chains, ends them and leaves the cells as the flow means
abbrev pub MeansByOrder : Type 0
MeansByOrder = (f : GraphValue) (commute : Bool) (g : GraphValue) (place : ℕ → ℕ) → IsFlow f → IsGraph g → AllForward g → Keeps f g place → Orders f commute g place →
    ((i : ℕ) → i < length f.lines → eval_end g (place i) ≡ flow_end f commute i) × ((c p : ℕ) → cells_of (evaluation g) c p ≡ flow_cells f commute c p)

-- and is accepted, where its sections stand
abbrev pub AcceptedByOrder : Type 0
AcceptedByOrder = (f : GraphValue) (commute : Bool) (g : GraphValue) (place : ℕ → ℕ) → IsFlow f → IsGraph g → AllForward g → Keeps f g place → Orders f commute g place → SectionsStand f commute g place →
    Accepted g

-- the whole: from the sources of the lines and the sections, the graph means the flow
abbrev pub MeansBySources : Type 0
MeansBySources = (f : GraphValue) (commute : Bool) (g : GraphValue) (place : ℕ → ℕ) → IsFlow f → IsGraph g → Keeps f g place → SourcesStand f commute g place → SectionsStand f commute g place →
    MeansFlow f commute g

-- a flow means the same in each format: how its lines end, which cells they leave, and which lines have a chain to which
abbrev pub FlowInEachFormat : Type 0
FlowInEachFormat = (h : Format) (f : GraphValue) (commute : Bool) →
    ((i : ℕ) → flow_end (written_in h f) commute i ≡ flow_end f commute i)
    × ((c p : ℕ) → flow_cells (written_in h f) commute c p ≡ flow_cells f commute c p)
    × ((i j : ℕ) → Chain (written_in h f) commute i j ↔ Chain f commute i j)

-- of the sources that the construction gives a line, and of the lines that it depends on: it depends on each source, and each line that it depends on is a source or has a chain to one
abbrev pub SourcesTie : Type 0
SourcesTie = (f : GraphValue) (commute : Bool) (n j : ℕ) → j < n →
    ((i : ℕ) → Contains (slice_index_or (sources_after f commute n) j []) i → IsTrue (depends f commute i j))
    × ((i : ℕ) → IsTrue (depends f commute i j) → (k : ℕ) × Contains (slice_index_or (sources_after f commute n) j []) k × ((k ≡ i) ⊎ Chain f commute i k))
