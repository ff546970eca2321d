use Rattle.std.proofs.Common.{◌≡◌, List}
use Rattle.std.specs.Prelude.{Some}
use Rattle.graph_terms.specs.declared.verb.Edge.{Edge}
use Rattle.explanations.specs.declared.reaches.Reach.{Reach}
use Rattle.explanations.specs.Reaches.{reach_at, AreLinked}
use Rattle.explanations.proofs.WaysBack.{IsWayBack, steps_at}
use Rattle.explanations.proofs.reaches.path_to.Given as goal

abbrev pub invariant-loop-edge : goal.invariant-loop-edge
invariant-loop-edge l = (all : List Edge) (m : Reach) → AreLinked all l.reaches → reach_at l.reaches l.line ≡ Some m → IsWayBack all l.reaches l.line l.at m l.edges.items

abbrev pub decreases-loop-edge : goal.decreases-loop-edge
decreases-loop-edge l = steps_at l.reaches l.at
