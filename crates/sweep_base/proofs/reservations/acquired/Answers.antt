use Rattle.sweep_base.proofs.ReservationFacts.{acquired_here}
use Rattle.sweep_base.proofs.reservations.acquired.Goals as goal

pub returns-in-Acquire : goal.returns-in-Acquire
returns-in-Acquire c = acquired_here c.args.graph.now c.line.ensures.is_graph c.args.line c.in-Acquire.lock c.line.result.now c.line.ensures.line _ c.in-Acquire.is
