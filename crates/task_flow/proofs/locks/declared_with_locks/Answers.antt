use Rattle.std.proofs.Common.{sym, ◌∙◌, ap, Err}
use Rattle.std.proofs.lemmas.Result.{err_from_is_err_and}
use Rattle.task_flow.specs.declared.making.Stop.TheVariants.{Limit}
use Rattle.task_flow.proofs.Growth.{err_same}
use Rattle.task_flow.proofs.AddSteps.{none_declared, locks_declared, locks_free, locks_over, locks_some, number_few}
use Rattle.task_flow.proofs.ContendSteps.{columns_few}
use Rattle.task_flow.proofs.locks.declared_with_locks.Goals as goal

pub returns-in_default-clause-ok : goal.returns-in_default-clause-ok
returns-in_default-clause-ok c = none_declared c.args.flow.now c.args.sections.now.commute c.in_ok-graph.graph c.in_ok-graph.ensures (sym c.in_default.is ∙ c.requires.numbers)

pub add_locks-requires-clause-first : goal.add_locks-requires-clause-first
add_locks-requires-clause-first c = number_few c.args.flow.now c.in-Some.first (sym c.in-Some.is ∙ c.requires.numbers)

pub add_locks-requires-clause-few : goal.add_locks-requires-clause-few
add_locks-requires-clause-few c = columns_few c.args.flow.now c.args.sections.now c.requires.sections

pub add_locks-requires-clause-free : goal.add_locks-requires-clause-free
add_locks-requires-clause-free c = locks_free c.args.flow.now c.args.sections.now c.requires.sections c.in_ok-graph.graph c.in_ok-graph.ensures c.in-Some.first (sym c.in-Some.is ∙ c.requires.numbers)

pub returns-in_err-add_locks-clause-limit : goal.returns-in_err-add_locks-clause-limit
returns-in_err-add_locks-clause-limit c = λ h.
    let p = err_from_is_err_and c.from_residual-in_err-add_locks.result c.from_residual-in_err-add_locks.ensures.1 in
    let limit = ap (λ e. Err e) (err_same c.from_residual-in_err-add_locks.result p.0 c.in_err-add_locks.field-0.0 Limit p.1 p.2 h) in
    locks_over c.args.flow.now c.args.sections.now c.requires.sections c.in_ok-graph.graph c.in_ok-graph.ensures c.in-Some.first (sym c.in-Some.is ∙ c.requires.numbers) (c.in_err-add_locks.ensures.some limit) (c.in_err-add_locks.ensures.limit limit)

pub returns-clause-ok : goal.returns-clause-ok
returns-clause-ok c = c.in_ok-add_locks.ensures.ok ∙ locks_declared c.args.flow.now c.args.sections.now c.requires.sections c.in_ok-graph.graph c.in_ok-graph.ensures c.in-Some.first (sym c.in-Some.is ∙ c.requires.numbers)

pub returns-in_err-add_locks-clause-some : goal.returns-in_err-add_locks-clause-some
returns-in_err-add_locks-clause-some c = λ h.
    let p = err_from_is_err_and c.from_residual-in_err-add_locks.result c.from_residual-in_err-add_locks.ensures.1 in
    let limit = ap (λ e. Err e) (err_same c.from_residual-in_err-add_locks.result p.0 c.in_err-add_locks.field-0.0 Limit p.1 p.2 h) in
    locks_some c.args.flow.now c.args.sections.now c.requires.sections c.in_ok-graph.graph c.in_ok-graph.ensures c.in-Some.first (sym c.in-Some.is ∙ c.requires.numbers) (c.in_err-add_locks.ensures.some limit)
