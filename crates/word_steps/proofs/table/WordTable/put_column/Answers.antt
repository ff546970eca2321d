use Rattle.std.proofs.Common.{arith, refl}
use Rattle.word_steps.proofs.table.WordTable.put_column.Goals as goal
use Rattle.word_steps.proofs.AtKey.{put_step}

pub store-requires : goal.store-requires
store-requires c = (c.requires.at.0, omega (arith, c.args.self.now.sized.0, c.turn_word-word.ensures.there), let m = c.requires.may in put_step c.args.self.now _ _ c.args.c _ m.left m.claim m.ks _ m.more m.has m.first m.tops refl _ c.turn_word-word.ensures.word)
