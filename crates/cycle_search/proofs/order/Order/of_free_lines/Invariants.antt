use Rattle.cycle_search.specs.Order.{IsCounted, HasRoom}
use Rattle.cycle_search.proofs.order.Order.of_free_lines.Given as goal

abbrev pub invariant-loop-line : goal.invariant-loop-line
invariant-loop-line l = record {
  counted : IsCounted l.graph l.order.lines.items l.order.left.items l.line;
  room : HasRoom l.graph l.order.lines.items;
}
