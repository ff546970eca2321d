use Rattle.column_parts.proofs.Parting.{ArePartsTo}
use Rattle.column_parts.proofs.found.find_parts.Given as goal

abbrev pub invariant-loop-column : goal.invariant-loop-column
invariant-loop-column l = ArePartsTo l.graph l.lists.items l.column
