use Rattle.std.proofs.Common.{◌≡◌, length}
use Rattle.sweep_base.specs.Noted.{AreStillNoted}
use Rattle.race_sweeps.proofs.Walking.{IsWalking, rest_of}
use Rattle.race_sweeps.proofs.scan.Scan.walk.Given as goal

abbrev pub invariant-loop-found : goal.invariant-loop-found
invariant-loop-found l = record {
  size : length l.racing.items ≡ length l.graph.lines;
  noted : AreStillNoted l.fn.racing.items l.racing.items;
  walking : IsWalking l.graph l.table l.racing.items l.first l.ask (length l.self.members.earlier.items) l.found;
}

abbrev pub decreases-loop-found : goal.decreases-loop-found
decreases-loop-found l = rest_of l.found
