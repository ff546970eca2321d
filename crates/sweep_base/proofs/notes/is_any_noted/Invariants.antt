use Rattle.std.proofs.Common.{◌≡◌, ℕ, ◌<◌, ◌≤◌, false}
use Rattle.sweep_base.specs.Noted.{is_noted}
use Rattle.sweep_base.proofs.notes.is_any_noted.Given as goal

abbrev pub invariant-loop-line : goal.invariant-loop-line
invariant-loop-line l = record { none : (i : ℕ) → l.first ≤ i → i < l.line → is_noted l.noted i ≡ false }
