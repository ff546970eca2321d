use Rattle.graph_reader.proofs.TextTells.{text_tells}
use Rattle.graph_reader.proofs.laws.text_tells_graphs_apart.Goals as goal

pub returns : goal.returns
returns c = text_tells
