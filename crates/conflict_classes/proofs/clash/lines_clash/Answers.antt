use Rattle.std.proofs.Common.{sym, ◌∙◌, arith}
use Rattle.std.specs.Prelude.{Contains}
use Rattle.std.proofs.lemmas.Bool.{true≢false}
use Rattle.graph_terms.specs.declared.verb.Access.{Access}
use Rattle.graph_terms.specs.Access.{all_accesses}
use Rattle.conflict_classes.specs.Clash.{Clash, LinesClash}
use Rattle.conflict_classes.proofs.AccessSteps.{access_read, none_more, none_left, none_done, few_accesses}
use Rattle.sweep_base.proofs.Public.{answer_no, answer_yes}
use Rattle.conflict_classes.proofs.clash.lines_clash.Goals as goal

pub clashes_with-requires-clause-one : goal.clashes_with-requires-clause-one
clashes_with-requires-clause-one c =
    let xs = all_accesses c.args.graph.now c.args.one in
    (c.all_accesses_fit.ensures c.args.graph.now c.args.one c.in-Some.access c.lines.ensures.is_graph (access_read xs c.loop-k.k c.in-Some.access (sym c.in-Some.ensures))).space

pub returns-then-clashes_with : goal.returns-then-clashes_with
returns-then-clashes_with c =
    let xs = all_accesses c.args.graph.now c.args.one in
    answer_yes (LinesClash c.args.graph.now c.args.commuting c.args.one c.args.other) (c.in-Some.access, access_read xs c.loop-k.k c.in-Some.access (sym c.in-Some.ensures), c.clashes_with.ensures.0 c.if-clashes_with.true)

pub loop-k-preserved : goal.loop-k-preserved
loop-k-preserved c =
    none_more (λ a. (b : Access) × Contains (all_accesses c.args.graph.now c.args.other) b × Clash c.args.graph.now c.args.commuting a b) (all_accesses c.args.graph.now c.args.one) c.loop-k.k c.in-Some.access (sym c.in-Some.ensures)
    (λ p. true≢false (sym (c.if-clashes_with.ensures.1 p))) c.loop-k.invariant

pub returns-in_default : goal.returns-in_default
returns-in_default c =
    answer_no (LinesClash c.args.graph.now c.args.commuting c.args.one c.args.other) (λ q. none_left (λ a. (b : Access) × Contains (all_accesses c.args.graph.now c.args.other) b × Clash c.args.graph.now c.args.commuting a b) (all_accesses c.args.graph.now c.args.one) c.loop-k.k
    (sym c.any_access.ensures ∙ c.in_default.is) c.loop-k.invariant q.0 q.1 q.2)

pub returns : goal.returns
returns c =
    answer_no (LinesClash c.args.graph.now c.args.commuting c.args.one c.args.other) (λ q. none_done (λ a. (b : Access) × Contains (all_accesses c.args.graph.now c.args.other) b × Clash c.args.graph.now c.args.commuting a b) (all_accesses c.args.graph.now c.args.one) c.loop-k.k
    (omega (arith, few_accesses c.args.graph.now c.lines.ensures.is_graph c.args.one)) c.loop-k.invariant q.0 q.1 q.2)
