use Rattle.std.proofs.Common.{arith}
use Rattle.graph_model.proofs.CountLaws.{access_words_size}
use Rattle.graph_model.proofs.graph.Graph.access_size.Goals as goal

pub returns-clause-size : goal.returns-clause-size
returns-clause-size c =
    omega (arith, access_words_size c.args.self.now c.args.access.now, c.mode_size.ensures.size, c.data_size.ensures.size, c.space_size.ensures.size)
