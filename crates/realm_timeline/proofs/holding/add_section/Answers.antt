use Rattle.realm_timeline.specs.State.{bars}
use Rattle.realm_timeline.proofs.Barring.{adds_none}
use Rattle.realm_timeline.proofs.holding.add_section.Goals as goal

pub returns-in_default-clause-holder : goal.returns-in_default-clause-holder
returns-in_default-clause-holder c = adds_none (bars c.args.graph.now c.args.line) c.args.queues.now.items c.args.line c.in_default.ensures
