use Rattle.std.proofs.Common.{◌≡◌, All, length}
use Rattle.home_queues.specs.Opening.{IsFresh}
use Rattle.home_queues.proofs.opening.new_owners.Given as goal

abbrev pub invariant-loop-owner : goal.invariant-loop-owner
invariant-loop-owner l = (length l.owners.items ≡ l._owner) × All (IsFresh l.lines 9) l.owners.items
