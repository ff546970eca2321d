use Rattle.sweep_base.proofs.ReservationFacts.{released_here}
use Rattle.sweep_base.proofs.reservations.released.Goals as goal

pub returns-in-Release : goal.returns-in-Release
returns-in-Release c = released_here c.args.graph.now c.line.ensures.is_graph c.args.line c.in-Release.acquire c.line.result.now c.line.ensures.line c.in-Release.is
