use Rattle.flow_order.proofs.Formats.{flow_in_each_format}
use Rattle.flow_order.proofs.laws.flow_in_each_format.Goals as goal

pub returns : goal.returns
returns c = flow_in_each_format
