use Rattle.std.proofs.Common.{◌≤◌}
use Rattle.std.specs.Vec.{vec_capacity}
use Rattle.word_parts.specs.Preparing.{AreEmpty, AreLoose}
use Rattle.word_parts.proofs.preparing.line_slots.Given as goal

abbrev pub invariant-loop-line : goal.invariant-loop-line
invariant-loop-line l = record { empty : AreEmpty l._line l.slots.items; loose : AreLoose l.slots.items; room : l.count ≤ vec_capacity l.slots }
