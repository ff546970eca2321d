use Rattle.lent_columns.proofs.ShownFacts.{none_shown}
use Rattle.lent_columns.proofs.shared_homes.SharedHomes.of.Goals as goal

pub returns : goal.returns
returns c = none_shown c.args.homes c.args.columns c.none_lent.result.items c.requires.each c.none_lent.ensures
