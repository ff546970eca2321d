use Rattle.std.proofs.Common.{◌≡◌, ℕ, ◌<◌, ◌≤◌, false}
use Rattle.graph_terms.specs.Reservations.{Releases}
use Rattle.sweep_base.specs.Noted.{is_noted}
use Rattle.race_check.proofs.sections.releases_any.Given as goal

abbrev pub invariant-loop-line : goal.invariant-loop-line
invariant-loop-line l = record { none : (r q : ℕ) → l.first ≤ r → r < l.line → Releases l.graph r q → is_noted l.doubted q ≡ false }
