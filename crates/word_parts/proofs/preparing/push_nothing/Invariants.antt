use Rattle.std.proofs.Common.{◌≡◌, ◌+◌, ◌≤◌, ◌++◌, replicate}
use Rattle.std.specs.Prelude.{vec_len}
use Rattle.std.specs.Vec.{vec_capacity}
use Rattle.word_steps.specs.declared.content.Content.TheVariants.{Nothing}
use Rattle.word_parts.proofs.preparing.push_nothing.Given as goal

abbrev pub invariant-loop-place : goal.invariant-loop-place
invariant-loop-place l = record {
  items : l.slots.items ≡ l.initial.slots.items ++ replicate l._place Nothing;
  room : vec_len l.initial.slots + l.count ≤ vec_capacity l.slots;
  capacity : vec_capacity l.initial.slots ≤ vec_capacity l.slots;
}
