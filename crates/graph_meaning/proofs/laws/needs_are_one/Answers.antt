use Rattle.graph_meaning.proofs.NeedLaws.{one_need}
use Rattle.graph_meaning.proofs.laws.needs_are_one.Goals as goal

pub returns : goal.returns
returns c = one_need
