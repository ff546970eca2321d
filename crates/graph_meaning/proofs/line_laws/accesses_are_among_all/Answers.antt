use Rattle.graph_meaning.proofs.LineFacts as laws
use Rattle.graph_meaning.proofs.line_laws.accesses_are_among_all.Goals as goal

pub returns : goal.returns
returns c = laws.accesses_are_among_all
