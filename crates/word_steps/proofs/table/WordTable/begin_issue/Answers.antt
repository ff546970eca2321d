use Rattle.std.proofs.Common.{arith}
use Rattle.word_steps.proofs.table.WordTable.begin_issue.Goals as goal
use Rattle.word_steps.proofs.AtKey.{begin_issue_step}

pub compare_exchange-requires : goal.compare_exchange-requires
compare_exchange-requires c = (c.requires.at.0, omega (arith, c.args.self.now.sized.0, c.requires.line), let m = c.requires.may in begin_issue_step c.args.self.now _ _ _ _ m.0 c.requires.line m.1 m.2 c.requires.quiet)
