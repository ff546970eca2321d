use Rattle.slot_need.specs.Sweep.{IsNotOpenYet}
use Rattle.slot_need.proofs.need.first_open.Given as goal

abbrev pub invariant-loop-line : goal.invariant-loop-line
invariant-loop-line l = IsNotOpenYet l.tally l.need l.count l.line
