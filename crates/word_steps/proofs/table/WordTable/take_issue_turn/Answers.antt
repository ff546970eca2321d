use Rattle.std.proofs.Common.{arith, subst}
use Rattle.word_steps.specs.Plays.{takes_issue_turn}
use Rattle.word_steps.proofs.table.WordTable.take_issue_turn.Goals as goal
use Rattle.word_steps.proofs.AtKey.{take_issue_turn_step}

pub compare_exchange-requires : goal.compare_exchange-requires
compare_exchange-requires c = (c.requires.at.0, omega (arith, c.args.self.now.sized.0, c.issue_turn_word-word.ensures), take_issue_turn_step c.args.self.now _ c.issue_turn_word-word.ensures _ _ _ c.requires.idle c.requires.numbered)

pub returns-clause-takes : goal.returns-clause-takes
returns-clause-takes c = subst (λ k. takes_issue_turn k c.args.seat.now.me c.compare_exchange.result c.compare_exchange.new.seat.me) c.issue_turn_word-word.ensures c.compare_exchange.ensures.2
