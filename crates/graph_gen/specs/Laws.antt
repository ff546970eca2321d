-- What holds of all generated graphs.
use Rattle.std.specs.Prelude.{◌≡◌, ℕ, ◌<◌, ◌≤◌, ◌^◌, length}
use Rattle.graph_terms.specs.declared.limits.TheConstants.{MAX_LINES}
use Rattle.graph_terms.specs.Fits.{IsGraph}
use Rattle.graph_meaning.specs.Rules.{Accepted}
use Rattle.graph_gen.specs.MadeGraph.{made_graph}

-- a generated graph is a graph of as many lines as its size says
abbrev pub HaveTheirSize : Type 0
HaveTheirSize = (seed size : ℕ) → seed < 2 ^ 64 → 1 ≤ size → size ≤ MAX_LINES → IsGraph (made_graph seed size) × (length (made_graph seed size).lines ≡ size)

-- a generated graph is accepted
abbrev pub AreAccepted : Type 0
AreAccepted = (seed size : ℕ) → seed < 2 ^ 64 → 1 ≤ size → size ≤ MAX_LINES → Accepted (made_graph seed size)
