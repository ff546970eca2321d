use Rattle.cycle_search.proofs.Numbering.{AreNumbers}
use Rattle.cycle_search.proofs.order.Order.as_numbered.Given as goal

abbrev pub invariant-loop-line : goal.invariant-loop-line
invariant-loop-line l = AreNumbers l.lines.items l.line
