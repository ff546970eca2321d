use Rattle.std.proofs.Common.{arith}
use Rattle.word_steps.proofs.table.WordTable.join_place.Goals as goal
use Rattle.word_steps.proofs.AtKey.{join_step}

pub join_seat-requires : goal.join_seat-requires
join_seat-requires c = (c.requires.at.0, c.requires.other.0, c.requires.empty, omega (arith, c.args.self.now.sized.0), join_step c.args.self.now _ _ _ _ c.requires.numbered c.requires.free)
