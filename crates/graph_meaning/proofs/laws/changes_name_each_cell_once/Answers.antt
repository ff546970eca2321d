use Rattle.graph_meaning.proofs.GraphLaws as laws
use Rattle.graph_meaning.proofs.laws.changes_name_each_cell_once.Goals as goal

pub returns : goal.returns
returns c = laws.changes_name_each_cell_once c.points_ascend.ensures
