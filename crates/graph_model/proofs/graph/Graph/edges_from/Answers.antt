use Rattle.graph_model.proofs.RowReads.{row_is, from_read}
use Rattle.graph_model.proofs.graph.Graph.edges_from.Goals as goal

pub edges_from-requires : goal.edges_from-requires
edges_from-requires c = row_is _ c.args.self.now c.self.inside.rows c.args.i c.self.view_is c.self.invariant.rows c.requires

pub returns : goal.returns
returns c = from_read _ c.args.self.now c.self.inside.rows c.args.i c.edges_from.result.now c.self.view_is c.self.invariant.rows c.edges_from.ensures
