use Rattle.graph_reader.proofs.TextLines.{lines_stand}
use Rattle.graph_reader.proofs.laws.lines_stand_in_order.Goals as goal

pub returns : goal.returns
returns c = lines_stand
