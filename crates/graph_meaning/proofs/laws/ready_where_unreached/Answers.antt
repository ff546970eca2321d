use Rattle.graph_meaning.proofs.GraphLaws as laws
use Rattle.graph_meaning.proofs.laws.ready_where_unreached.Goals as goal

pub returns : goal.returns
returns c = laws.ready_where_unreached
