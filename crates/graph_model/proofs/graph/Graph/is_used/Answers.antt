use Rattle.std.proofs.Common.{◌∙◌}
use Rattle.graph_model.proofs.Naming.{found_is_used}
use Rattle.graph_model.proofs.graph.Graph.is_used.Goals as goal

pub returns : goal.returns
returns c = c.is_some.ensures ∙ found_is_used c.args.self.now c.args.name.now c.find.result c.find.ensures
