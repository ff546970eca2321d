use Rattle.column_parts.proofs.Noting.{AreKept}
use Rattle.column_parts.proofs.accessed.distinct.Given as goal

abbrev pub invariant-loop-s : goal.invariant-loop-s
invariant-loop-s l = AreKept l.numbers l.s-index l.spaces l.distinct.items l.seen.items
