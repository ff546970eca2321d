use Rattle.graph_gen.proofs.Draws.{made_size, made_is_graph}
use Rattle.graph_gen.proofs.laws.made_graphs_have_their_size.Goals as goal

pub returns : goal.returns
returns c = λ seed size h some most. (made_is_graph seed size h most, made_size seed size h most)
