use Rattle.std.proofs.Common.{arith}
use Rattle.cycle_search.proofs.OrderLoops.{all_no_cycle}
use Rattle.cycle_search.proofs.cycle.first_cycle_from.Goals as goal

pub returns : goal.returns
returns c = all_no_cycle c.args.graph.now (λ e m. c.edges_between_lines.ensures c.args.graph.now e c.lines-line-end.ensures.is_graph m) c.loop-line.line (omega arith) c.loop-line.invariant
