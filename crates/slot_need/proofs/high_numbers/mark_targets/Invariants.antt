use Rattle.std.proofs.Common.{take}
use Rattle.line_marks.specs.Marking.{IsMarking}
use Rattle.slot_need.specs.High.{IsTarget}
use Rattle.slot_need.proofs.high_numbers.mark_targets.Given as goal

abbrev pub invariant-loop-edge : goal.invariant-loop-edge
invariant-loop-edge l = IsMarking (IsTarget (take l.edge-index l.edges)) l.mark l.initial.marks.by_line.items l.initial.marks.pending.items l.marks.by_line.items l.marks.pending.items
