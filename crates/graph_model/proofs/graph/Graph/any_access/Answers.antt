use Rattle.std.proofs.Common.{sym, ◌∙◌}
use Rattle.graph_model.proofs.CallLaws.{among_all, of_call}
use Rattle.graph_model.proofs.graph.Graph.any_access.Goals as goal

pub returns-in-Some : goal.returns-in-Some
returns-in-Some c = among_all c.args.self.now c.args.i c.args.k c.in-Some.access (sym c.access.ensures ∙ c.in-Some.is)

pub returns-in-None : goal.returns-in-None
returns-in-None c = c.call_access.ensures ∙ of_call c.args.self.now c.args.i c.args.k c.requires (sym c.access.ensures ∙ c.in-None.is)
