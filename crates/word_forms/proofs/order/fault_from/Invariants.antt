use Rattle.std.proofs.Common.{◌≡◌, length}
use Rattle.word_forms.specs.Order.{fault_from}
use Rattle.word_forms.proofs.order.fault_from.Given as goal

abbrev pub invariant-loop-rest : goal.invariant-loop-rest
invariant-loop-rest l = fault_from l.fn.before l.pairs ≡ fault_from l.last l.rest

abbrev pub decreases-loop-rest : goal.decreases-loop-rest
decreases-loop-rest l = length l.rest
