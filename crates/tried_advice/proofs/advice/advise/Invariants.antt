use Rattle.std.proofs.Common.{◌≡◌, take}
use Rattle.tried_advice.specs.Orders.{NoneOrders}
use Rattle.tried_advice.proofs.advice.advise.Given as goal

abbrev pub invariant-loop-form : goal.invariant-loop-form
invariant-loop-form l = NoneOrders l.graph l.first l.second (take l.form-index l.form-items)
