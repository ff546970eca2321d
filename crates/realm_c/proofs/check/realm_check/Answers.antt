use Rattle.std.proofs.Common.{sym, subst, ap, inr, ◌∙◌}
use Rattle.graph_meaning.specs.Need.{IsNeed}
use Rattle.c_answers.specs.Refusals.{status_of}
use Rattle.realm_c.proofs.check.realm_check.Goals as goal

pub returns-in-Ok-clause-accepted : goal.returns-in-Ok-clause-accepted
returns-in-Ok-clause-accepted c = λ e.
    let x = c.in-Ok.ensures.text in
    let n = c.need_of.ensures.need in
    (c.in-Ok.checked.graph, c.need_of.result, x.0, x.1, subst (IsNeed c.in-Ok.checked.graph) (sym n.0) x.2, n.1, c.needing.ensures)

pub returns-in-Err-clause-refused : goal.returns-in-Err-clause-refused
returns-in-Err-clause-refused c = λ e f. (c.in-Err.refusal, c.in-Err.ensures.refused, c.status.ensures.number, c.of.ensures)

pub returns-in-Err-clause-complete : goal.returns-in-Err-clause-complete
returns-in-Err-clause-complete c = λ g short t a. inr (c.status.ensures.number ∙ ap status_of (c.in-Err.ensures.complete g t a))
