use Rattle.flow_order.proofs.Forward as forward
use Rattle.flow_order.proofs.laws.paths_lead_forward.Goals as goal

pub returns : goal.returns
returns c = forward.paths_lead_forward
