use Rattle.std.proofs.Common.{◌≡◌, length}
use Rattle.section_sweeps.specs.Releases.{release_in}
use Rattle.section_sweeps.proofs.ReleaseTable.{IsReleaseTableTo}
use Rattle.section_sweeps.proofs.releases.releases.Given as goal

abbrev pub invariant-loop-line : goal.invariant-loop-line
invariant-loop-line l = record { size : length l.releases.items ≡ length l.graph.lines; table : IsReleaseTableTo l.graph (release_in l.releases.items) l.line }
