use Rattle.std.proofs.Common.{arith, subst}
use Rattle.word_steps.specs.Plays.{shares}
use Rattle.word_steps.proofs.table.WordTable.share.Goals as goal
use Rattle.word_steps.proofs.AtKey.{share_step}

pub compare_exchange-requires : goal.compare_exchange-requires
compare_exchange-requires c = (c.requires.at.0, omega (arith, c.args.self.now.sized.0, c.lock_word-word.ensures.there), share_step c.args.self.now _ _ c.args.line c.args.l c.args.before _ c.requires.known c.requires.may c.requires.shared c.requires.low _ c.lock_word-word.ensures.word)

pub returns-clause-shares : goal.returns-clause-shares
returns-clause-shares c = subst (λ k. shares k c.args.before c.args.seat.now.me c.compare_exchange.result c.compare_exchange.new.seat.me) c.lock_word-word.ensures.word c.compare_exchange.ensures.2
