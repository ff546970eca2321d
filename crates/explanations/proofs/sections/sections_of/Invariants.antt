use Rattle.std.proofs.Common.{ℕ, ◌<◌}
use Rattle.std.specs.Prelude.{Contains}
use Rattle.explanations.proofs.SectionFacts.{IsSectionBy}
use Rattle.explanations.proofs.sections.sections_of.Given as goal

abbrev pub invariant-loop-release : goal.invariant-loop-release
invariant-loop-release l = record {
  sound : (q : ℕ) → Contains l.acquires.items q → (r : ℕ) × IsSectionBy l.graph l.before.items l.after.items l.line q r;
  complete : (q r : ℕ) → r < l.release → IsSectionBy l.graph l.before.items l.after.items l.line q r → Contains l.acquires.items q;
}
