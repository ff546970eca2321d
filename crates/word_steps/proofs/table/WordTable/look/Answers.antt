use Rattle.std.proofs.Common.{arith}
use Rattle.word_steps.proofs.table.WordTable.look.Goals as goal
use Rattle.word_steps.proofs.AtKey.{look_step}

pub load-requires : goal.load-requires
load-requires c = (c.requires.at.0, omega (arith, c.args.self.now.sized.0, c.requires.line), look_step c.args.self.now _ _ _ _ c.requires.line)
