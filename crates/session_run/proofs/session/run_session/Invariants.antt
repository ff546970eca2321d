use Rattle.std.proofs.Common.{length}
use Rattle.session_run.specs.Linked.{linked}
use Rattle.session_run.proofs.Sequence.{IsMidway}
use Rattle.session_run.proofs.session.run_session.Given as goal

abbrev pub invariant-loop-alloc : goal.invariant-loop-alloc
invariant-loop-alloc g l = IsMidway (linked l.fn.entries.items) l.slots l.running l.entries.items

abbrev pub decreases-loop-alloc : goal.decreases-loop-alloc
decreases-loop-alloc g l = length l.entries.items
