use Rattle.std.proofs.Common.{arith}
use Rattle.word_steps.proofs.table.WordTable.claim.Goals as goal
use Rattle.word_steps.proofs.AtKey.{claim_step}

pub compare_exchange-requires : goal.compare_exchange-requires
compare_exchange-requires c = (c.requires.at.0, omega (arith, c.args.self.now.sized.0, c.requires.line), claim_step c.args.self.now _ _ _ _ c.requires.line c.requires.idle c.requires.numbered c.requires.comes c.requires.sources)
