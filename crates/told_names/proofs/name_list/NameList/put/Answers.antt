use Rattle.std.proofs.Common.{◌∙◌, ap}
use Rattle.basics.specs.Words.{contents}
use Rattle.told_names.specs.Named.{with_name}
use Rattle.told_names.proofs.NamedFacts.{name_put}
use Rattle.told_names.proofs.name_list.NameList.put.Goals as goal

pub returns-in-Ok : goal.returns-in-Ok
returns-in-Ok c = ap contents c.in-Ok.ensures.keys ∙ (name_put c.args.name c.self.inside.names.keys ∙ ap (λ ws. with_name ws c.args.name.now) c.self.view_is)
