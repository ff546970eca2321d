use Rattle.std.proofs.Common.{length}
use Rattle.home_queues.proofs.Gather.{Gathering}
use Rattle.home_queues.proofs.closing.gather.Given as goal

abbrev pub invariant-loop-right : goal.invariant-loop-right
invariant-loop-right l = Gathering l.lines l.initial.owners.items l.owners.items l.initial.row.items l.row.items

abbrev pub decreases-loop-right : goal.decreases-loop-right
decreases-loop-right l = length l.row.items
