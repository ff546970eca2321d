use Rattle.std.proofs.Common.{ap, ◌∙◌}
use Rattle.graph_terms.specs.Name.{padded}
use Rattle.graph_terms.specs.NameLaws.{front_number}
use Rattle.graph_terms.proofs.NameOrder.{front_of_padded}
use Rattle.graph_terms.proofs.name.Name.front.Goals as goal

pub returns : goal.returns
returns c = c.front_of.ensures ∙ ap front_number (c.self.invariant.padded.rest ∙ ap padded c.self.view_is) ∙ front_of_padded c.args.self.now
