use Rattle.flow_order.proofs.Forward as forward
use Rattle.flow_order.proofs.laws.edges_lead_forward.Goals as goal

pub returns : goal.returns
returns c = forward.edges_lead_forward
