use Rattle.graph_meaning.proofs.OrderLaws as laws
use Rattle.graph_meaning.proofs.laws.order_lists_ended_for_all_effects.Goals as goal

pub returns : goal.returns
returns c = laws.order_lists_ended_with
