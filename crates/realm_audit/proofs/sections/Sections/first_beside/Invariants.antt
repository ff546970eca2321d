use Rattle.std.proofs.Common.{ℕ, ◌<◌}
use Rattle.realm_audit.specs.Prefix.{IsOpenBeside}
use Rattle.realm_audit.proofs.sections.Sections.first_beside.Given as goal

abbrev pub invariant-loop-line : goal.invariant-loop-line
invariant-loop-line l = (q : ℕ) → q < l.line → IsOpenBeside l.graph l.self.opened.items l.lock l.shared q → ⊥
