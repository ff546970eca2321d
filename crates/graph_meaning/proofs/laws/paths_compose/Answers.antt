use Rattle.graph_meaning.proofs.GraphLaws as laws
use Rattle.graph_meaning.proofs.laws.paths_compose.Goals as goal

pub returns : goal.returns
returns c = laws.paths_compose
