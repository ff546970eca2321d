use Rattle.session_run.proofs.OneEnds.{one_end}
use Rattle.session_run.proofs.laws.sessions_have_one_end.Goals as goal

pub returns : goal.returns
returns c = one_end
