use Rattle.graph_gen.proofs.Acceptance.{made_accepted}
use Rattle.graph_gen.proofs.laws.made_graphs_are_accepted.Goals as goal

pub returns : goal.returns
returns c = λ seed size h some most. made_accepted seed size h most
