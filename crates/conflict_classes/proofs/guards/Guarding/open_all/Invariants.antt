use Rattle.std.proofs.Common.{◌≡◌, length}
use Rattle.conflict_classes.specs.Guards.{AreOpened}
use Rattle.conflict_classes.proofs.guards.Guarding.open_all.Given as goal

abbrev pub invariant-loop-number : goal.invariant-loop-number
invariant-loop-number l = record {
  locks : length l.self.locks.items ≡ length l.initial.self.locks.items;
  openings : length l.self.openings.items ≡ length l.initial.self.openings.items;
  opened : AreOpened l.graph l.held l.order l.classes.of.items l.classes.sites.items l.self.locks.items l.self.openings.items l.number;
}
