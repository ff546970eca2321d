use Rattle.graph_terms.proofs.Public.{barrier_known}
use Rattle.graph_model.proofs.graph.Graph.phase_count.Goals as goal

pub barrier-requires : goal.barrier-requires
barrier-requires c = barrier_known c.args.self.now c.line.ensures.is_graph c.args.p c.in-Phase.barrier c.line.result.now c.line.ensures.line c.in-Phase.is
