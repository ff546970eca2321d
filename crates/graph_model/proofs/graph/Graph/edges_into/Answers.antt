use Rattle.graph_model.proofs.RowReads.{row_is, into_read}
use Rattle.graph_model.proofs.graph.Graph.edges_into.Goals as goal

pub edges_into-requires : goal.edges_into-requires
edges_into-requires c = row_is _ c.args.self.now c.self.inside.rows c.args.i c.self.view_is c.self.invariant.rows c.requires

pub returns : goal.returns
returns c = into_read _ c.args.self.now c.self.inside.rows c.args.i c.edges_into.result.now c.self.view_is c.self.invariant.rows c.edges_into.ensures
