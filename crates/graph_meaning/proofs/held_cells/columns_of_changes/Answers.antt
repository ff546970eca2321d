use Rattle.graph_meaning.proofs.HeldCellsLaws as laws
use Rattle.graph_meaning.proofs.held_cells.columns_of_changes.Goals as goal

pub returns : goal.returns
returns c = laws.columns_of_changes
