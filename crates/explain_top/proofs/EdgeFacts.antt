-- The edges by which lines are reached, and those of whole ways, are edges of the graph.
use Rattle.std.proofs.Common.{◌≡◌, List, sym, subst}
use Rattle.std.specs.Prelude.{Contains, Option}
use Rattle.basics.proofs.ListFacts.{filter_contains}
use Rattle.graph_terms.specs.declared.verb.Edge.{Edge}
use Rattle.graph_terms.specs.declared.outcome.End.{End}
use Rattle.graph_terms.specs.Graph.{GraphValue}
use Rattle.graph_terms.specs.Edges.{edges}
use Rattle.explanations.specs.Reaches.{AreLinked, carries, fault_edges}
use Rattle.explanations.specs.declared.reaches.Reach.{Reach}
use Rattle.explain_graph.specs.declared.ways.Way.{Way}
use Rattle.explain_graph.proofs.NamedItems.{leads_edges}
use Rattle.explain_text.specs.Accepted.{AreByEdges, AreWayEdges}
use Rattle.explain_graph.specs.Ways.{AreLongest}

pub fault_in : (g : GraphValue) (ends : List End) (e : Edge) → Contains (fault_edges g ends) e → Contains (edges g) e
fault_in g ends e c = (filter_contains (carries ends) (edges g) e c).0

module _ (g : GraphValue) (all : List Edge) (sub : (e : Edge) → Contains all e → Contains (edges g) e) (reaches read : List (Option Reach)) (same : read ≡ reaches) (linked : AreLinked all reaches) where
  pub by_edges : AreByEdges g read
  by_edges = subst (AreByEdges g) (sym same) (λ i m e is by. sub e (linked.linked i m e is by).0)

  pub ways_in : (ways shown : List Way) → shown ≡ ways → AreLongest read ways → AreWayEdges g shown
  ways_in ways shown is are = subst (AreWayEdges g) (sym is) (λ w e cw ce. sub e (leads_edges all w.start w.line w.path.items (((subst (λ rs. AreLongest rs ways) same are).each w cw).path all linked).0 e ce))
