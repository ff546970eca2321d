use Rattle.std.proofs.Common.{◌≡◌, ℕ, ◌<◌, List, length, subst}
use Rattle.std.specs.Prelude.{Some, IsTrue, IsSome}
use Rattle.graph_terms.specs.declared.verb.Edge.{Edge}
use Rattle.explanations.specs.declared.reaches.Reach.{Reach}
use Rattle.explanations.specs.Paths.{Leads}
use Rattle.explanations.specs.Reaches.{reach_at, end_at, fault_edges, begins_fault, IsFault, IsReached, AreLinked}
use Rattle.explanations.proofs.Causes.{cancelled_exactly}
use Rattle.explanations.proofs.reaches.cancelled_lines.Goals as goal

pub returns-clause-exact : goal.returns-clause-exact
returns-clause-exact c =
    let g = c.args.graph.now in
    let same : c.as_slice.result.now ≡ c.args.ends.now = cc in
    let v = c.in_ok-reaches.reaches.items in
    cancelled_exactly g c.lines.ensures.is_graph c.edges_between_lines.ensures c.args.ends.now c.requires c.cancelled_where_unbroken.ensures c.order_lists_ended.ensures v
    (subst (λ es. (i : ℕ) (m : Reach) → reach_at v i ≡ Some m → IsReached (fault_edges g es) (IsFault g es) i m) same c.in_ok-reaches.ensures.reached)
    (subst (λ es. AreLinked (fault_edges g es) v) same c.in_ok-reaches.ensures.linked)
    (subst (λ es. (k i : ℕ) (p : List Edge) → k < length g.lines → IsTrue (begins_fault g (end_at es k) k) → Leads (fault_edges g es) k i p → IsSome (reach_at v i)) same c.in_ok-reaches.ensures.complete)

pub returns-clause-reached : goal.returns-clause-reached
returns-clause-reached c =
    let g = c.args.graph.now in
    let same : c.as_slice.result.now ≡ c.args.ends.now = cc in
    subst (λ es. (i : ℕ) (m : Reach) → reach_at c.in_ok-reaches.reaches.items i ≡ Some m → IsReached (fault_edges g es) (IsFault g es) i m) same c.in_ok-reaches.ensures.reached
