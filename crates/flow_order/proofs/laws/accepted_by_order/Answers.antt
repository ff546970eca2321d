use Rattle.flow_order.proofs.Acceptance as acceptance
use Rattle.flow_order.proofs.laws.accepted_by_order.Goals as goal

pub returns : goal.returns
returns c = acceptance.accepted_by_order c.points_are_listed.ensures
