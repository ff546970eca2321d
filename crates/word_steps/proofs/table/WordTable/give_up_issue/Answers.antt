use Rattle.std.proofs.Common.{arith}
use Rattle.word_steps.proofs.table.WordTable.give_up_issue.Goals as goal
use Rattle.word_steps.proofs.AtKey.{give_up_issue_step}

pub store-requires : goal.store-requires
store-requires c = (c.requires.at.0, omega (arith, c.args.self.now.sized.0, c.requires.line), let m = c.requires.may in give_up_issue_step c.args.self.now _ _ _ _ m.2.0 m.0 c.requires.line m.1 c.requires.mine m.2.1)
