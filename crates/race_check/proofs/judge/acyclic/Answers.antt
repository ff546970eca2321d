use Rattle.sweep_base.proofs.Public.{none_of}
use Rattle.race_check.proofs.Placing.{order_placed, order_full}
use Rattle.race_check.proofs.judge.acyclic.Goals as goal

pub returns-in-None-clause-order : goal.returns-in-None-clause-order
returns-in-None-clause-order c = order_placed c.args.graph.now (λ e k. c.edges_between_lines.ensures c.args.graph.now e c.lines.ensures.is_graph k) c.in_ok-order.order.lines.items c.in_ok-order.order.left.items c.in_ok-order.ensures.ordered (none_of _ _ c.in_ok-found.found c.in-None.is c.in_ok-found.ensures)

pub returns-in-None-clause-count : goal.returns-in-None-clause-count
returns-in-None-clause-count c = order_full c.args.graph.now (λ e k. c.edges_between_lines.ensures c.args.graph.now e c.lines.ensures.is_graph k) c.in_ok-order.order.lines.items c.in_ok-order.order.left.items c.in_ok-order.ensures.ordered c.in_ok-order.ensures.few (none_of _ _ c.in_ok-found.found c.in-None.is c.in_ok-found.ensures)
