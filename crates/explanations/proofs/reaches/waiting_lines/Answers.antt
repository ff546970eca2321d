use Rattle.explanations.proofs.Causes.{waits_exactly}
use Rattle.explanations.proofs.reaches.waiting_lines.Goals as goal

pub returns-clause-exact : goal.returns-clause-exact
returns-clause-exact c = waits_exactly c.args.graph.now c.lines.ensures.is_graph c.edges_between_lines.ensures c.in_ok-reaches.reaches.items c.in_ok-reaches.ensures.reached c.in_ok-reaches.ensures.complete
