use Rattle.std.proofs.Common.{◌≡◌, ◌≤◌}
use Rattle.std.specs.Vec.{vec_capacity}
use Rattle.shared_events.specs.Views.{IsSetOf, taken_of, size_of}
use Rattle.word_parts.specs.Preparing.{AreWaiters}
use Rattle.word_parts.proofs.preparing.all_waiters.Given as goal

abbrev pub invariant-loop-line : goal.invariant-loop-line
invariant-loop-line l = record { waiters : AreWaiters l.events l._line l.waiters.items; set : IsSetOf l.events l.set; taken : taken_of l.set ≡ l._line; all : size_of l.set ≡ l.lines; room : l.lines ≤ vec_capacity l.waiters }
