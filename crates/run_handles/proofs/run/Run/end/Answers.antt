use Rattle.std.proofs.Common.{rules, ◌≡◌, ℕ, sym, subst}
use Rattle.std.specs.Arc.{arc_value}
use Rattle.graph_terms.specs.Graph.{GraphValue}
use Rattle.run_core.specs.Core.{CoreValue}
use Rattle.run_core.specs.Finishing.{NothingOut}
use Rattle.run_handles.specs.Ends.{IsCall, IsEvaluated, LeavesNoCall, end_in, end_of}
use Rattle.run_handles.proofs.run.Run.end.Goals as goal

pub given_by-found-requires-clause-nothing_out : goal.given_by-found-requires-clause-nothing_out
given_by-found-requires-clause-nothing_out c =
    let is : c.wake.result ≡ c.args.self = search rules in
    subst NothingOut (sym is) c.requires.nothing_out

pub given_by-found-requires-clause-none_left : goal.given_by-found-requires-clause-none_left
given_by-found-requires-clause-none_left c =
    let is : c.wake.result ≡ c.args.self = search rules in
    subst LeavesNoCall (sym is) c.requires.none_left

pub invariant_of-result : goal.invariant_of-result
invariant_of-result c =
    let graph : c.wake.result.graph ≡ (arc_value c.self.inside.graph).graph = search rules in
    record { evaluated = subst (λ (g : GraphValue). IsEvaluated g c.given_by-found.result) graph c.given_by-found.ensures.evaluated }

pub returns-clause-ends : goal.returns-clause-ends
returns-clause-ends c =
    let is : c.wake.result ≡ c.args.self = search rules in
    subst (λ (v : CoreValue). (i : ℕ) → IsCall v.graph i → end_of c.given_by-found.result i ≡ end_in v i) is c.given_by-found.ensures.ends
