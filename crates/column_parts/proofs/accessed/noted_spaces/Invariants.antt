use Rattle.column_parts.specs.Accessed.{AreNoted}
use Rattle.column_parts.proofs.accessed.noted_spaces.Given as goal

abbrev pub invariant-loop-i : goal.invariant-loop-i
invariant-loop-i l = AreNoted l.graph l.lists.items l.i
