use Rattle.race_check.proofs.Placing.{order_placed, order_full}
use Rattle.race_check.proofs.judge.order_of.Goals as goal

pub returns-clause-order : goal.returns-clause-order
returns-clause-order c = order_placed c.args.graph.now (λ e k. c.edges_between_lines.ensures c.args.graph.now e c.lines.ensures.is_graph k) c.in_ok-order.order.lines.items c.in_ok-order.order.left.items c.in_ok-order.ensures.ordered c.requires.acyclic

pub returns-clause-count : goal.returns-clause-count
returns-clause-count c = order_full c.args.graph.now (λ e k. c.edges_between_lines.ensures c.args.graph.now e c.lines.ensures.is_graph k) c.in_ok-order.order.lines.items c.in_ok-order.order.left.items c.in_ok-order.ensures.ordered c.in_ok-order.ensures.few c.requires.acyclic
