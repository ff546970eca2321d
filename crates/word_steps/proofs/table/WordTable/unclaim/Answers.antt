use Rattle.std.proofs.Common.{arith}
use Rattle.word_steps.proofs.table.WordTable.unclaim.Goals as goal
use Rattle.word_steps.proofs.AtKey.{unclaim_step_at}

pub store-requires : goal.store-requires
store-requires c = (c.requires.at.0, omega (arith, c.args.self.now.sized.0, c.requires.line), let m = c.requires.may in let r = m.2.2 in unclaim_step_at c.args.self.now _ _ _ _ r.1.0 m.0 r.0 m.1 m.2.0 m.2.1 r.1.1 r.2 r.3)
