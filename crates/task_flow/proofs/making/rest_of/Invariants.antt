use Rattle.std.proofs.Common.{◌≡◌, ◌-◌, take, drop}
use Rattle.task_flow.proofs.making.rest_of.Given as goal

abbrev pub invariant-loop-i : goal.invariant-loop-i
invariant-loop-i l = l.rest ≡ take (l.i - l.most) (drop l.most l.events)
