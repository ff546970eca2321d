use Rattle.std.proofs.Common.{arith, subst}
use Rattle.word_steps.specs.Plays.{turns}
use Rattle.word_steps.proofs.table.WordTable.take_turn.Goals as goal
use Rattle.word_steps.proofs.AtKey.{turn_step}

pub compare_exchange-requires : goal.compare_exchange-requires
compare_exchange-requires c = (c.requires.at.0, omega (arith, c.args.self.now.sized.0, c.turn_word-word.ensures.there), turn_step c.args.self.now _ _ c.args.line c.args.c _ c.requires.known c.requires.may _ c.turn_word-word.ensures.word)

pub returns-clause-turns : goal.returns-clause-turns
returns-clause-turns c = subst (λ k. turns k c.args.seat.now.me c.compare_exchange.result c.compare_exchange.new.seat.me) c.turn_word-word.ensures.word c.compare_exchange.ensures.2
