use Rattle.graph_meaning.proofs.GraphLaws as laws
use Rattle.graph_meaning.proofs.laws.cancelled_where_unbroken_for_all_effects.Goals as goal

pub returns : goal.returns
returns c = laws.cancelled_where_unbroken_with
