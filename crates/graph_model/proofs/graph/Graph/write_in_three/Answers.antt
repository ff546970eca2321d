use Rattle.graph_terms.proofs.Public.{three_is_last}
use Rattle.graph_model.proofs.graph.Graph.write_in_three.Goals as goal

pub written_in-requires : goal.written_in-requires
written_in-requires c = three_is_last c.args.self.format
