use Rattle.std.proofs.Common.{arith}
use Rattle.word_steps.proofs.table.WordTable.store_issue.Goals as goal
use Rattle.word_steps.proofs.AtKey.{issue_step}

pub store-requires : goal.store-requires
store-requires c = (c.requires.at.0, omega (arith, c.args.self.now.sized.0, c.requires.line), let m = c.requires.may in issue_step c.args.self.now _ _ _ _ m.3.1.0 m.0 m.3.0 c.requires.line m.1 c.requires.mine m.2 m.3.1.1 m.3.2 m.3.3)
