-- Which orders are lawful traces.
use Rattle.std.specs.Prelude.{ℕ}
use Rattle.graph_terms.specs.Graph.{GraphValue}
use Rattle.graph_terms.specs.Reservations.{Acquires}
use Rattle.graph_meaning.specs.Evaluation.{order}
use Rattle.graph_meaning.specs.Trace.{IsLawful}

-- no line acquires a reservation
abbrev pub AcquiresNone : GraphValue → Type 0
AcquiresNone g = (q l : ℕ) → Acquires g q l → ⊥

-- the order of the evaluation is a lawful trace of a graph that acquires no reservation
abbrev pub OrderIsLawful : Type 0
OrderIsLawful = (g : GraphValue) → AcquiresNone g → IsLawful g (order g)
