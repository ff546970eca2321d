use Rattle.graph_meaning.proofs.HeldCellsLaws as laws
use Rattle.graph_meaning.proofs.held_cells.cells_by_point.Goals as goal

pub returns : goal.returns
returns c = laws.cells_by_point c.point_of_rank.ensures
