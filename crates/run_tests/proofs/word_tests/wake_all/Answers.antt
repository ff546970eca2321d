use Rattle.std.proofs.Common.{refl, ◌∙◌}
use Rattle.run_tests.proofs.word_tests.wake_all.Goals as goal

pub loop-turn-init : goal.loop-turn-init
loop-turn-init c = record { at = c.requires.at; woken = c.requires.woken; numbers = (refl, refl) }

pub loop-turn-preserved : goal.loop-turn-preserved
loop-turn-preserved c = record {
  at = c.next.ensures.at;
  woken = c.next.ensures.woken;
  numbers = (c.next.ensures.numbers.0 ∙ c.loop-turn.invariant.numbers.0, c.next.ensures.numbers.1 ∙ c.loop-turn.invariant.numbers.1);
}
