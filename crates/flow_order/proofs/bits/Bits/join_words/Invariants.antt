use Rattle.std.proofs.Common.{◌≡◌, ◌≤◌, ◌+◌, max}
use Rattle.flow_order.proofs.BitSteps.{IsJoined}
use Rattle.flow_order.proofs.bits.Bits.join_words.Given as goal

abbrev pub invariant-loop-i : goal.invariant-loop-i
invariant-loop-i l = record {
  start : max l.place l.initial.self-inside.full ≤ l.place + l.i;
  full : l.self-inside.full ≡ l.initial.self-inside.full;
  words : IsJoined l.initial.self-inside.words.items l.words l.self-inside.words.items l.place (max l.place l.initial.self-inside.full) (l.place + l.i);
}
