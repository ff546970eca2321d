use Rattle.graph_meaning.proofs.LineFacts as laws
use Rattle.graph_meaning.proofs.line_laws.accesses_with_cells.Goals as goal

pub returns : goal.returns
returns c = laws.accesses_with_cells
