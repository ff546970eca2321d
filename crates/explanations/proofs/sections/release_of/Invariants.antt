use Rattle.std.proofs.Common.{ℕ, ◌<◌}
use Rattle.graph_terms.specs.Reservations.{Releases}
use Rattle.explanations.proofs.sections.release_of.Given as goal

abbrev pub invariant-loop-line : goal.invariant-loop-line
invariant-loop-line l = (r : ℕ) → r < l.line → Releases l.graph r l.acquire → ⊥
