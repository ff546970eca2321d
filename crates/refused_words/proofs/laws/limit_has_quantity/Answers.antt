use Rattle.refused_words.proofs.QuantityFacts.{limit_quantity}
use Rattle.refused_words.proofs.laws.limit_has_quantity.Goals as goal

pub returns : goal.returns
returns c = limit_quantity
