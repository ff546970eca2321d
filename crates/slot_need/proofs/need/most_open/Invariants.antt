use Rattle.slot_need.specs.Sweep.{IsSwept}
use Rattle.slot_need.proofs.need.most_open.Given as goal

abbrev pub invariant-loop-line : goal.invariant-loop-line
invariant-loop-line l = IsSwept l.tally l.count l.most l.line
