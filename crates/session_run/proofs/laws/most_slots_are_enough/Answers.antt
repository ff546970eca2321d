use Rattle.session_run.proofs.Enough.{most_are_enough}
use Rattle.session_run.proofs.laws.most_slots_are_enough.Goals as goal

pub returns : goal.returns
returns c = most_are_enough
