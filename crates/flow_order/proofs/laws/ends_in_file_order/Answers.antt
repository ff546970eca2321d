use Rattle.flow_order.proofs.Forward as forward
use Rattle.flow_order.proofs.laws.ends_in_file_order.Goals as goal

pub returns : goal.returns
returns c = forward.ends_in_file_order
