use Rattle.graph_meaning.proofs.GraphLaws as laws
use Rattle.graph_meaning.proofs.laws.order_is_irrelevant_for_all_effects.Goals as goal

pub returns : goal.returns
returns c = laws.order_is_irrelevant_with
