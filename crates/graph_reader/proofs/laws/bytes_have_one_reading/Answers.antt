use Rattle.graph_reader.proofs.TextTells.{one_reading}
use Rattle.graph_reader.proofs.laws.bytes_have_one_reading.Goals as goal

pub returns : goal.returns
returns c = one_reading
