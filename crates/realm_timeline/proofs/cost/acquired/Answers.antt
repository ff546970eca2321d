use Rattle.graph_terms.proofs.Public.{lock_known}
use Rattle.realm_timeline.proofs.CostFacts.{verb_of}
use Rattle.realm_timeline.proofs.cost.acquired.Goals as goal

pub returns-in-Acquire : goal.returns-in-Acquire
returns-in-Acquire c = (
  verb_of c.args.graph.now c.args.line c.line.result.now c.line.ensures.line _ c.in-Acquire.is,
  lock_known c.args.graph.now c.line.ensures.is_graph c.args.line c.in-Acquire.lock c.line.result.now c.line.ensures.line c.in-Acquire.shared c.in-Acquire.is,
)
