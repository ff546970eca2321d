use Rattle.std.proofs.Common.{◌≡◌, ℕ, ◌-◌, ◌<◌, ◌≤◌, length}
use Rattle.race_sweeps.specs.Scan.{AreAnsweredAt}
use Rattle.race_sweeps.specs.ScanState.{IsScanned}
use Rattle.race_sweeps.proofs.scan.Scan.note_racing.Given as goal

abbrev pub invariant-loop-first : goal.invariant-loop-first
invariant-loop-first l = record {
  within : l.first ≤ l.lines;
  scanned : IsScanned l.graph l.table l.self l.first;
  size : length l.racing.items ≡ length l.graph.lines;
  answered : (u : ℕ) → u < l.first → AreAnsweredAt l.graph l.table.limit l.table.lines.items l.racing.items u;
}

abbrev pub decreases-loop-first : goal.decreases-loop-first
decreases-loop-first l = l.lines - l.first
