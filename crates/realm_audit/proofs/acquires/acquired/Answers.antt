use Rattle.realm_audit.proofs.VerbReads.{acquired_here}
use Rattle.realm_audit.proofs.acquires.acquired.Goals as goal

pub returns-in-Acquire : goal.returns-in-Acquire
returns-in-Acquire c = acquired_here c.args.graph.now c.line.ensures.is_graph c.args.line c.in-Acquire.lock c.in-Acquire.shared c.line.result.now c.line.ensures.line c.in-Acquire.is
