use Rattle.std.proofs.Common.{arith}
use Rattle.word_steps.proofs.table.WordTable.read_back.Goals as goal
use Rattle.word_steps.proofs.AtKey.{read_back_step}

pub store-requires : goal.store-requires
store-requires c = (c.requires.at.0, omega (arith, c.args.self.now.sized.0, c.share_word-word.ensures.there), read_back_step c.args.self.now _ _ c.args.c c.args.j _ c.requires.known.0 c.requires.known.1 c.requires.may _ c.share_word-word.ensures.word)
