use Rattle.graph_meaning.proofs.GraphLaws as laws
use Rattle.graph_meaning.proofs.laws.edges_between_lines.Goals as goal

pub returns : goal.returns
returns c = laws.edges_between_lines
