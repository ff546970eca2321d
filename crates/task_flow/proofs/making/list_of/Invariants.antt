use Rattle.std.proofs.Common.{◌≡◌, take}
use Rattle.task_flow.proofs.making.list_of.Given as goal

abbrev pub invariant-loop-i : goal.invariant-loop-i
invariant-loop-i l = l.on ≡ take l.i l.events
