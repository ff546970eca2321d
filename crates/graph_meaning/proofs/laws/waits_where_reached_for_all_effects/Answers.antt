use Rattle.graph_meaning.proofs.GraphLaws as laws
use Rattle.graph_meaning.proofs.laws.waits_where_reached_for_all_effects.Goals as goal

pub returns : goal.returns
returns c = laws.waits_where_reached_with
