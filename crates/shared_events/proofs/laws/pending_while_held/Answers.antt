use Rattle.shared_events.proofs.Law.{pending_law}
use Rattle.shared_events.proofs.laws.pending_while_held.Goals as goal

pub returns : goal.returns
returns c = pending_law
