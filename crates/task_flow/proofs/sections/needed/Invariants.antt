use Rattle.std.proofs.Common.{◌≡◌, false}
use Rattle.task_flow.specs.Construction.{needed, wants_many}
use Rattle.task_flow.proofs.sections.needed.Given as goal

abbrev pub invariant-loop-line : goal.invariant-loop-line
invariant-loop-line l = (l.columns ≡ needed l.flow l.commute l.line) × (wants_many l.flow l.commute l.line ≡ false)
