use Rattle.column_parts.proofs.Noting.{AreNotedTo}
use Rattle.column_parts.proofs.accessed.note_line.Given as goal

abbrev pub invariant-loop-k : goal.invariant-loop-k
invariant-loop-k l = AreNotedTo l.graph l.initial.lists.items l.lists.items l.i l.k
