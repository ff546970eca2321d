use Rattle.std.proofs.Common.{◌≡◌, ◌+◌, sym, subst, ◌∙◌, take, arith}
use Rattle.std.specs.Prelude.{Contains}
use Rattle.graph_terms.specs.Access.{all_accesses}
use Rattle.explanations.specs.Shared.{IsLeastAmong}
use Rattle.explanations.proofs.SharedFacts.{access_read, no_more, others_more, others_all}
use Rattle.explanations.proofs.races.shared_with.Goals as goal

pub returns-in_default : goal.returns-in_default
returns-in_default c =
    let xs = all_accesses c.args.graph.now c.args.line in
    others_all c.args.graph.now c.args.one xs c.loop-k.k (no_more xs c.loop-k.k (sym c.any_access.ensures ∙ c.in_default.is)) c.loop-k.best c.loop-k.invariant

pub shared_by-requires-clause-other : goal.shared_by-requires-clause-other
shared_by-requires-clause-other c =
    let xs = all_accesses c.args.graph.now c.args.line in
    (c.all_accesses_fit.ensures c.args.graph.now c.args.line c.in-Some.other c.lines.ensures.is_graph (access_read xs c.loop-k.k c.in-Some.other (sym c.in-Some.ensures))).space

pub loop-k-preserved : goal.loop-k-preserved
loop-k-preserved c =
    let xs = all_accesses c.args.graph.now c.args.line in
    subst (λ o. IsLeastAmong c.args.graph.now (λ a b. (a ≡ c.args.one) × Contains (take (c.loop-k.k + 1) xs) b) o) (sym c.lesser-best.ensures)
    (others_more c.args.graph.now c.args.one xs c.loop-k.k c.in-Some.other (sym c.in-Some.ensures) c.loop-k.best c.in_ok-found.found c.loop-k.invariant c.in_ok-found.ensures)

pub returns : goal.returns
returns c =
    let xs = all_accesses c.args.graph.now c.args.line in
    others_all c.args.graph.now c.args.one xs c.loop-k.k (omega (arith, c.all_accesses_are_few.ensures c.args.graph.now c.args.line c.lines.ensures.is_graph, c.loop-k-test.false)) c.loop-k.best c.loop-k.invariant
