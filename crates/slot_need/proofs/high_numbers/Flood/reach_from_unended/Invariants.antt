use Rattle.slot_need.specs.High.{IsFlood}
use Rattle.slot_need.proofs.FloodSteps.{never_below}
use Rattle.slot_need.proofs.high_numbers.Flood.reach_from_unended.Given as goal

abbrev pub invariant-loop-line : goal.invariant-loop-line
invariant-loop-line l = IsFlood l.graph (never_below l.graph l.line) l.self.marks.by_line.items l.self.marks.pending.items l.self.noted.items
