-- What an arrival says of its phase.
use Rattle.std.proofs.Common.{◌≡◌, ℕ, ◌<◌, length, ◌∙◌, ap}
use Rattle.std.specs.Prelude.{Some, slice_get}
use Rattle.graph_terms.specs.declared.verb.Line.{Line}
use Rattle.graph_terms.specs.declared.verb.EdgeKind.TheVariants.{Passes}
use Rattle.graph_terms.specs.declared.verb.Verb.TheVariants.{Arrive}
use Rattle.graph_terms.specs.Graph.{GraphValue}
use Rattle.graph_terms.specs.Edges.{edge}
use Rattle.graph_terms.specs.Fits.{IsGraph}
use Rattle.graph_meaning.specs.Laws.{EdgesBetweenLines}
use Rattle.line_effects.proofs.Public.{verb_is}
use Rattle.graph_terms.proofs.Public.{arrival_edge}

-- the phase of an arrival is a line
pub phase_there : EdgesBetweenLines → (g : GraphValue) → IsGraph g → (i p v w : ℕ) (l : Line) → slice_get g.lines i ≡ Some l → l.verb ≡ Arrive p v w → p < length g.lines
phase_there fit g is i p v w l h e = (fit g (edge i p Passes) is (arrival_edge g i p v w (verb_is g i l h ∙ ap (λ x. Some x) e))).1
