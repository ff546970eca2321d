use Rattle.shared_events.proofs.Law.{one_place_law}
use Rattle.shared_events.proofs.laws.one_place.Goals as goal

pub returns : goal.returns
returns c = one_place_law
