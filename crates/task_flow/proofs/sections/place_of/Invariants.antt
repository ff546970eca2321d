use Rattle.std.proofs.Common.{◌≡◌, false, take}
use Rattle.std.specs.Prelude.{◌==◌}
use Rattle.std.specs.List.{list_any}
use Rattle.task_flow.proofs.sections.place_of.Given as goal

abbrev pub invariant-loop-other : goal.invariant-loop-other
invariant-loop-other l = (l.place ≡ l.other-index) × (list_any (λ z. z == l.column) (take l.other-index l.other-items) ≡ false) × (l.other-items ≡ l.columns)
