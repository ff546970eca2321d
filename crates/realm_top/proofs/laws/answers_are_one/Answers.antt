use Rattle.realm_top.specs.Answer.{purpose}
use Rattle.realm_top.proofs.Requests.{one_by}
use Rattle.realm_top.proofs.laws.answers_are_one.Goals as goal

pub returns : goal.returns
returns c = λ request bytes s t out a b.
    one_by c.needs_are_one.ensures c.bytes_have_one_reading.ensures c.text_tells_traces_apart.ensures c.bytes_have_one_session.ensures c.sessions_have_one_end.ensures (purpose request.action) request bytes s t out a b
