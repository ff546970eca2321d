use Rattle.std.proofs.Common.{arith}
use Rattle.word_steps.proofs.table.WordTable.draw.Goals as goal
use Rattle.word_steps.proofs.AtKey.{draw_step}

pub fetch_add-requires : goal.fetch_add-requires
fetch_add-requires c = (c.requires.at.0, omega (arith, c.args.self.now.sized.0, c.clock_word-word.ensures.word), let m = c.requires.may in draw_step c.args.self.now _ c.clock_word-word.ensures.word _ _ _ m.0 m.1 c.clock_word-word.ensures.lines m.2.0 m.2.1 m.2.2)
