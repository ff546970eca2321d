use Rattle.std.proofs.Common.{ℕ, ◌<◌}
use Rattle.realm_audit.specs.Prefix.{IsLeft}
use Rattle.realm_audit.proofs.prefix.Prefix.first_left.Given as goal

abbrev pub invariant-loop-line : goal.invariant-loop-line
invariant-loop-line l = (j : ℕ) → j < l.line → IsLeft l.graph l.self.stands.items j → ⊥
