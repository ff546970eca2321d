use Rattle.std.proofs.Common.{arith}
use Rattle.word_steps.proofs.table.WordTable.split_place.Goals as goal
use Rattle.word_steps.proofs.AtKey.{split_step}

pub split_seat-requires : goal.split_seat-requires
split_seat-requires c = (c.requires.at.0, omega (arith, c.args.self.now.sized.0), split_step c.args.self.now _ _ c.requires.numbered)
