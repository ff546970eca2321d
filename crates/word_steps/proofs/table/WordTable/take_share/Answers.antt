use Rattle.std.proofs.Common.{arith, subst}
use Rattle.word_steps.specs.Plays.{takes_share}
use Rattle.word_steps.proofs.table.WordTable.take_share.Goals as goal
use Rattle.word_steps.proofs.AtKey.{take_share_step}

pub compare_exchange-requires : goal.compare_exchange-requires
compare_exchange-requires c = (c.requires.at.0, omega (arith, c.args.self.now.sized.0, c.share_word-word.ensures.there), take_share_step c.args.self.now _ _ c.args.line c.args.c c.args.j _ c.requires.known.0 c.requires.known.1 c.requires.may _ c.share_word-word.ensures.word)

pub returns-clause-takes : goal.returns-clause-takes
returns-clause-takes c = subst (λ k. takes_share k c.args.seat.now.me c.compare_exchange.result c.compare_exchange.new.seat.me) c.share_word-word.ensures.word c.compare_exchange.ensures.2
