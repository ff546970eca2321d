use Rattle.session_text.proofs.OneText.{one_session}
use Rattle.session_text.proofs.laws.bytes_have_one_session.Goals as goal

pub returns : goal.returns
returns c = λ bytes short. one_session bytes
