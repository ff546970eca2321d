use Rattle.graph_meaning.proofs.Changes as changes
use Rattle.graph_meaning.proofs.held_cells.seen_cells.Goals as goal

pub returns : goal.returns
returns c = changes.seen_cells
