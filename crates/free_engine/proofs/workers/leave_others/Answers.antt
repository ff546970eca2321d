use Rattle.std.proofs.Common.{refl, ◌∙◌}
use Rattle.free_engine.proofs.workers.leave_others.Goals as goal

pub loop-turn-init : goal.loop-turn-init
loop-turn-init t c = record { at = c.requires.at; woken = c.requires.woken; numbers = (refl, refl) }

pub loop-turn-preserved : goal.loop-turn-preserved
loop-turn-preserved t c = record {
  at = c.in-Some.ensures.at;
  woken = c.in-Some.ensures.woken;
  numbers = (c.in-Some.ensures.numbers.0 ∙ c.loop-turn.invariant.numbers.0, c.in-Some.ensures.numbers.1 ∙ c.loop-turn.invariant.numbers.1);
}
