use Rattle.std.proofs.Common.{◌≡◌, ◌≤◌, length}
use Rattle.section_sweeps.specs.Group.{AreOpened}
use Rattle.section_sweeps.proofs.group.Group.open.Given as goal

abbrev pub invariant-loop-bit : goal.invariant-loop-bit
invariant-loop-bit l = record {
  acquires : l.self.acquires ≡ l.initial.self.acquires;
  opened : AreOpened l.graph l.table.places.items l.self l.bit l.high;
  begins : l.start ≤ l.high;
  within : l.high ≤ length l.graph.lines;
}
