use Rattle.std.proofs.Common.{arith, subst}
use Rattle.word_steps.specs.Plays.{missed}
use Rattle.word_steps.proofs.table.WordTable.look_at_lock.Goals as goal
use Rattle.word_steps.proofs.AtKey.{look_at_lock_step}

pub load-requires : goal.load-requires
load-requires c = (c.requires.at.0, omega (arith, c.args.self.now.sized.0, c.lock_word-word.ensures.there), look_at_lock_step c.args.self.now _ _ c.args.l _ c.requires.known _ c.lock_word-word.ensures.word)

pub returns-clause-seen : goal.returns-clause-seen
returns-clause-seen c = subst (λ k. missed k c.args.seat.now.me c.load.result c.load.new.seat.me) c.lock_word-word.ensures.word c.load.ensures.2
