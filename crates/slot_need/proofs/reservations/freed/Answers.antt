use Rattle.slot_need.proofs.ReservationFacts.{freed_by_acquire}
use Rattle.slot_need.proofs.reservations.freed.Goals as goal

pub returns : goal.returns
returns c = freed_by_acquire c.args.graph.now c.lines.ensures.is_graph c.args.line c.in_ok-acquire.acquire c.acquired.result c.in_ok-acquire.ensures.0 c.acquired.ensures
