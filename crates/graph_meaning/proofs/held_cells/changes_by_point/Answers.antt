use Rattle.graph_meaning.proofs.HeldCellsLaws as laws
use Rattle.graph_meaning.proofs.held_cells.changes_by_point.Goals as goal

pub returns : goal.returns
returns c = laws.changes_by_point c.points_are_listed.ensures c.points_ascend.ensures c.point_of_rank.ensures c.rank_of_point.ensures
