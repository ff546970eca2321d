use Rattle.realm_timeline.specs.State.{bars}
use Rattle.realm_timeline.proofs.Barring.{removes_none}
use Rattle.realm_timeline.proofs.holding.remove_section.Goals as goal

pub returns-in_default-clause-holder : goal.returns-in_default-clause-holder
returns-in_default-clause-holder c = removes_none (bars c.args.graph.now c.args.acquire) c.args.queues.now.items c.args.acquire c.in_default.ensures
