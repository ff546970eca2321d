use Rattle.std.proofs.Common.{◌≡◌, ◌≤◌, max}
use Rattle.flow_order.proofs.BitSteps.{IsFilled}
use Rattle.flow_order.proofs.bits.Bits.fill.Given as goal

abbrev pub invariant-loop-w : goal.invariant-loop-w
invariant-loop-w l = record {
  start : l.initial.self-inside.full ≤ l.w;
  most : l.w ≤ max l.initial.self-inside.full l.full;
  full : l.self-inside.full ≡ l.initial.self-inside.full;
  words : IsFilled l.initial.self-inside.words.items l.self-inside.words.items l.initial.self-inside.full l.w;
}
