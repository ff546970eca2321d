use Rattle.std.proofs.Common.{◌≡◌, length}
use Rattle.conflict_classes.proofs.guards.Guarding.propose_all.Given as goal

abbrev pub invariant-loop-number : goal.invariant-loop-number
invariant-loop-number l = record { locks : length l.self.locks.items ≡ length l.initial.self.locks.items; openings : l.self.openings.items ≡ l.initial.self.openings.items }
