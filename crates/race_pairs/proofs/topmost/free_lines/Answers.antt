use Rattle.std.proofs.Common.{arith}
use Rattle.race_pairs.proofs.topmost.free_lines.Goals as goal

pub loop-step-init : goal.loop-step-init
loop-step-init c = record { begins = c.in_ok-low.ensures.begins; free = c.in_ok-low.ensures.free }

pub loop-step-preserved : goal.loop-step-preserved
loop-step-preserved c = record {
  begins = (let low = c.loop-step.invariant.begins in omega (arith, low, c.in_ok-bounds.ensures.begins));
  free = c.in_ok-bounds.ensures.free;
}
