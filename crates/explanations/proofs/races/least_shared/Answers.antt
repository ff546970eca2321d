use Rattle.std.proofs.Common.{◌+◌, sym, subst, ◌∙◌, take, arith}
use Rattle.std.specs.Prelude.{Contains}
use Rattle.graph_terms.specs.Access.{all_accesses}
use Rattle.explanations.specs.Shared.{IsLeastAmong}
use Rattle.explanations.proofs.SharedFacts.{access_read, no_more, ones_more, ones_all, no_conflict_by}
use Rattle.explanations.proofs.races.least_shared.Goals as goal

pub returns-in_default-clause-least : goal.returns-in_default-clause-least
returns-in_default-clause-least c =
    let xs = all_accesses c.args.graph.now c.args.first in
    ones_all c.args.graph.now (all_accesses c.args.graph.now c.args.second) xs c.loop-k.k (no_more xs c.loop-k.k (sym c.any_access.ensures ∙ c.in_default.is)) c.loop-k.best c.loop-k.invariant

pub returns-in_default-clause-none : goal.returns-in_default-clause-none
returns-in_default-clause-none c =
    let xs = all_accesses c.args.graph.now c.args.first in
    no_conflict_by c.args.graph.now c.args.first c.args.second c.loop-k.best
    (ones_all c.args.graph.now (all_accesses c.args.graph.now c.args.second) xs c.loop-k.k (no_more xs c.loop-k.k (sym c.any_access.ensures ∙ c.in_default.is)) c.loop-k.best c.loop-k.invariant)

pub shared_with-requires-clause-space : goal.shared_with-requires-clause-space
shared_with-requires-clause-space c =
    let xs = all_accesses c.args.graph.now c.args.first in
    (c.all_accesses_fit.ensures c.args.graph.now c.args.first c.in-Some.one c.lines.ensures.is_graph (access_read xs c.loop-k.k c.in-Some.one (sym c.in-Some.ensures))).space

pub loop-k-preserved : goal.loop-k-preserved
loop-k-preserved c =
    let xs = all_accesses c.args.graph.now c.args.first in
    let ys = all_accesses c.args.graph.now c.args.second in
    subst (λ o. IsLeastAmong c.args.graph.now (λ a b. Contains (take (c.loop-k.k + 1) xs) a × Contains ys b) o) (sym c.lesser-best.ensures)
    (ones_more c.args.graph.now ys xs c.loop-k.k c.in-Some.one (sym c.in-Some.ensures) c.loop-k.best c.in_ok-found.found c.loop-k.invariant c.in_ok-found.ensures)

pub returns-clause-least : goal.returns-clause-least
returns-clause-least c =
    let xs = all_accesses c.args.graph.now c.args.first in
    ones_all c.args.graph.now (all_accesses c.args.graph.now c.args.second) xs c.loop-k.k (omega (arith, c.all_accesses_are_few.ensures c.args.graph.now c.args.first c.lines.ensures.is_graph, c.loop-k-test.false)) c.loop-k.best c.loop-k.invariant

pub returns-clause-none : goal.returns-clause-none
returns-clause-none c =
    let xs = all_accesses c.args.graph.now c.args.first in
    no_conflict_by c.args.graph.now c.args.first c.args.second c.loop-k.best
    (ones_all c.args.graph.now (all_accesses c.args.graph.now c.args.second) xs c.loop-k.k (omega (arith, c.all_accesses_are_few.ensures c.args.graph.now c.args.first c.lines.ensures.is_graph, c.loop-k-test.false)) c.loop-k.best c.loop-k.invariant)
