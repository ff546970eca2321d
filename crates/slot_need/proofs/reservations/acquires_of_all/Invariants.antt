use Rattle.slot_need.specs.High.{AreAcquires}
use Rattle.slot_need.proofs.reservations.acquires_of_all.Given as goal

abbrev pub invariant-loop-line : goal.invariant-loop-line
invariant-loop-line l = AreAcquires l.graph l.lists.items l.line
