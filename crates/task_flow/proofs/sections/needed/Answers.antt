use Rattle.std.proofs.Common.{◌+◌, ◌<◌, ◌≤◌, sym, ◌∙◌, ap, subst, arith}
use Rattle.graph_terms.specs.Limits.{limits}
use Rattle.task_flow.proofs.OwnLocks.{few_first}
use Rattle.task_flow.proofs.ContendSteps.{needed_more, needed_same, many_by, few_by, few_same, first_over}
use Rattle.task_flow.proofs.sections.needed.Goals as goal

pub returns-then-locks-from-clause-refusal : goal.returns-then-locks-from-clause-refusal
returns-then-locks-from-clause-refusal c =
    let f = c.args.flow.now in
    let more = needed_more f c.args.commute c.loop-line.line c.loop-line.columns c.add_event.new.events c.summed_column.result (sym (c.requires.bits c.loop-line.line) ∙ (sym c.test.ensures ∙ c.if-not-test.false)) c.loop-line.invariant.0 c.summed_column.ensures c.in_ok-add_event.ensures in
    first_over f c.args.commute c.loop-line.line (let n = c.lines-line-end.ensures.number in let t = c.loop-line-test.true in omega (arith, n, t)) c.loop-line.invariant.1
    (many_by f c.args.commute (c.loop-line.line + 1) c.add_event.new.events c.from-locks.result c.from.result more (c.from-locks.ensures ∙ c.locks.ensures.number) (c.from.ensures ∙ c.len.ensures) (subst (λ z. z < c.from-locks.result + c.from.result) (c.most_locks-most.ensures ∙ ap (λ fm. (limits fm).locks) c.format.ensures) c.if-locks-from.true))

pub loop-line-init : goal.loop-line-init
loop-line-init c = (c.new-columns.ensures, few_first c.args.flow.now c.args.commute c.lines-line-end.ensures.is_graph)

pub loop-line-preserved-then-not-test : goal.loop-line-preserved-then-not-test
loop-line-preserved-then-not-test c =
    let f = c.args.flow.now in
    let free = sym (c.requires.bits c.loop-line.line) ∙ (sym c.test.ensures ∙ c.if-not-test.true) in
    (needed_same f c.args.commute c.loop-line.line c.loop-line.columns free c.loop-line.invariant.0, few_same f c.args.commute c.loop-line.line free c.loop-line.invariant.1)

pub loop-line-preserved : goal.loop-line-preserved
loop-line-preserved c =
    let f = c.args.flow.now in
    let more = needed_more f c.args.commute c.loop-line.line c.loop-line.columns c.add_event.new.events c.summed_column.result (sym (c.requires.bits c.loop-line.line) ∙ (sym c.test.ensures ∙ c.if-not-test.false)) c.loop-line.invariant.0 c.summed_column.ensures c.in_ok-add_event.ensures in
    (more, few_by f c.args.commute (c.loop-line.line + 1) c.add_event.new.events c.from-locks.result c.from.result more (c.from-locks.ensures ∙ c.locks.ensures.number) (c.from.ensures ∙ c.len.ensures) (subst (λ z. c.from-locks.result + c.from.result ≤ z) (c.most_locks-most.ensures ∙ ap (λ fm. (limits fm).locks) c.format.ensures) c.if-locks-from.false))
