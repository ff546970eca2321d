use Rattle.std.proofs.Common.{◌≡◌, ◌≤◌}
use Rattle.section_sweeps.proofs.SweepingDown.{AreSweptDown}
use Rattle.section_sweeps.proofs.sweep.sweep_down.Given as goal

abbrev pub invariant-loop-stop : goal.invariant-loop-stop
invariant-loop-stop l = record {
  acquires_own : l.to_acquires.own ≡ l.initial.to_acquires.own;
  releases_own : l.to_releases.own ≡ l.initial.to_releases.own;
  low : l.stop ≤ l.low;
  begins : l.stop ≤ l.place;
  ends : l.place ≤ l.high;
  swept : AreSweptDown l.graph l.table.places.items l.high l.to_acquires l.to_releases l.place l.stop;
}

abbrev pub decreases-loop-stop : goal.decreases-loop-stop
decreases-loop-stop l = l.place
