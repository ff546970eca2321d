use Rattle.std.proofs.Common.{◌≡◌, drop}
use Rattle.sweep_base.specs.Held.{kept_in}
use Rattle.sweep_base.proofs.line_sections.first_kept.Given as goal

abbrev pub invariant-loop-kept : goal.invariant-loop-kept
invariant-loop-kept l = kept_in (drop l.kept-index l.list) l.lock ≡ kept_in l.list l.lock
