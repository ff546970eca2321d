use Rattle.flow_order.proofs.Forward as forward
use Rattle.flow_order.proofs.laws.forward_has_no_cycle.Goals as goal

pub returns : goal.returns
returns c = forward.forward_has_no_cycle
