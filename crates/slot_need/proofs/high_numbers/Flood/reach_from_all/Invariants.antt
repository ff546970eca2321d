use Rattle.std.proofs.Common.{◌≤◌, length}
use Rattle.slot_need.specs.High.{IsFlood}
use Rattle.slot_need.proofs.FloodSteps.{done_from}
use Rattle.slot_need.proofs.high_numbers.Flood.reach_from_all.Given as goal

abbrev pub invariant-loop-line : goal.invariant-loop-line
invariant-loop-line l = record {
  within : l.line ≤ length l.graph.lines;
  flood : IsFlood l.graph (done_from l.graph l.line) l.self.marks.by_line.items l.self.marks.pending.items l.self.noted.items;
}

abbrev pub decreases-loop-line : goal.decreases-loop-line
decreases-loop-line l = l.line
