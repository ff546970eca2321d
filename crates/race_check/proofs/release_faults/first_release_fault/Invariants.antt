use Rattle.std.proofs.Common.{ℕ, ◌<◌}
use Rattle.graph_meaning.specs.Rules.{ReleaseFaultAt}
use Rattle.race_check.proofs.release_faults.first_release_fault.Given as goal

abbrev pub invariant-loop-line : goal.invariant-loop-line
invariant-loop-line l = record { before : (k : ℕ) → k < l.line → ReleaseFaultAt l.graph k }
