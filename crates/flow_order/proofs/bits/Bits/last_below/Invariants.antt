use Rattle.std.proofs.Common.{◌≡◌, ◌<◌, ◌≤◌, ℕ, false}
use Rattle.flow_order.specs.Bits.{is_shown}
use Rattle.flow_order.proofs.bits.Bits.last_below.Given as goal

abbrev pub invariant-loop-left : goal.invariant-loop-left
invariant-loop-left l = record {
  within : l.left ≤ l.bound;
  none : (j : ℕ) → l.left ≤ j → j < l.bound → is_shown l.self l.hidden j ≡ false;
}

abbrev pub decreases-loop-left : goal.decreases-loop-left
decreases-loop-left l = l.left
