use Rattle.std.proofs.Common.{take}
use Rattle.std.specs.Prelude.{Contains}
use Rattle.line_marks.specs.Marking.{IsMarking}
use Rattle.line_marks.proofs.Marks.mark_all.Given as goal

abbrev pub invariant-loop-line : goal.invariant-loop-line
invariant-loop-line l = IsMarking (Contains (take l.line-index l.lines)) l.mark l.initial.self.by_line.items l.initial.self.pending.items l.self.by_line.items l.self.pending.items
