use Rattle.std.proofs.Common.{◌≡◌, take, ◌∙◌, ap, sym, subst}
use Rattle.std.proofs.lemmas.Bool.{true≢false}
use Rattle.std.proofs.lemmas.List.{take_all}
use Rattle.tried_advice.specs.Orders.{NoneOrders}
use Rattle.tried_advice.proofs.RuleFacts.{none_more}
use Rattle.tried_advice.proofs.advice.advise.Goals as goal

pub loop-form-preserved : goal.loop-form-preserved
loop-form-preserved c =
    none_more c.args.graph.now c.args.first c.args.second c.as_slice-form-items.result.now c.loop-form.form-index _ c.loop-form-test.true c.loop-form.invariant (λ o. true≢false (sym (c.in_ok-orders.ensures.1 o) ∙ c.if-branch.false))

pub returns-clause-none : goal.returns-clause-none
returns-clause-none c = λ none.
    subst (NoneOrders c.args.graph.now c.args.first c.args.second) (take_all c.loop-form.form-index c.as_slice-form-items.result.now c.loop-form-test.false ∙ (c.as_slice-form-items.ensures.value ∙ c.in_ok-forms.ensures)) c.loop-form.invariant
