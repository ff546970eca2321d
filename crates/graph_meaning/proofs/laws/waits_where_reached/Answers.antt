use Rattle.graph_meaning.proofs.GraphLaws as laws
use Rattle.graph_meaning.proofs.laws.waits_where_reached.Goals as goal

pub returns : goal.returns
returns c = laws.waits_where_reached
