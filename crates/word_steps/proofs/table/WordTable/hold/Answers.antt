use Rattle.std.proofs.Common.{arith, subst}
use Rattle.word_steps.specs.Plays.{holds}
use Rattle.word_steps.proofs.table.WordTable.hold.Goals as goal
use Rattle.word_steps.proofs.AtKey.{hold_step}

pub compare_exchange-requires : goal.compare_exchange-requires
compare_exchange-requires c = (c.requires.at.0, omega (arith, c.args.self.now.sized.0, c.lock_word-word.ensures.there), hold_step c.args.self.now _ _ c.args.line c.args.l _ c.requires.known c.lock_word-word.ensures.lines c.requires.may c.requires.alone _ c.lock_word-word.ensures.word)

pub returns-clause-holds : goal.returns-clause-holds
returns-clause-holds c = subst (λ k. holds k c.args.seat.now.me c.compare_exchange.result c.compare_exchange.new.seat.me) c.lock_word-word.ensures.word c.compare_exchange.ensures.2
