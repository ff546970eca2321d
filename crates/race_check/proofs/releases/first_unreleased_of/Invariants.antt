use Rattle.std.proofs.Common.{ℕ, ◌<◌, ◌≤◌}
use Rattle.graph_meaning.specs.Rules.{ReleasedAt}
use Rattle.race_check.proofs.releases.first_unreleased_of.Given as goal

abbrev pub invariant-loop-line : goal.invariant-loop-line
invariant-loop-line l = record { before : (k : ℕ) → l.first ≤ k → k < l.line → ReleasedAt l.graph k }
