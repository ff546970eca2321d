use Rattle.std.proofs.Common.{◌≡◌, length}
use Rattle.conflict_classes.proofs.Guarding.{AreStarts}
use Rattle.conflict_classes.proofs.guards.Guarding.finish.Given as goal

abbrev pub invariant-loop-number : goal.invariant-loop-number
invariant-loop-number l = record {
  size : length l.starts.items ≡ l.number;
  started : AreStarts l.graph l.held l.order l.classes.of.items l.classes.sites.items l.self.locks.items l.self.openings.items l.starts.items l.number;
}
