use Rattle.std.proofs.Common.{◌∙◌}
use Rattle.told_names.proofs.look_ups.named_at.Goals as goal

pub returns-clause-named : goal.returns-clause-named
returns-clause-named c names number are = record { above = c.above.ensures ∙ are.above c.args.word; below = c.below.ensures ∙ are.below c.args.word }
