use Rattle.std.proofs.Common.{arith, ◌+◌, ap}
use Rattle.word_steps.proofs.table.WordTable.end_line.Goals as goal
use Rattle.word_steps.proofs.AtKey.{end_step_at}

pub store-requires : goal.store-requires
store-requires c = (c.requires.at.0, omega (arith, c.args.self.now.sized.0, c.requires.line), let m = c.requires.may in end_step_at c.args.self.now _ _ _ _ _ m.0 c.args.end m.1 m.2.0 (ap (λ k. 4 + k) c.code-end.ensures) m.2.1)
