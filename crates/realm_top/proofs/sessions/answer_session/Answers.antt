use Rattle.session_run.specs.Linked.{linked}
use Rattle.graph_answers.specs.Answer.{most_slots}
use Rattle.realm_top.specs.SessionAnswer.{RefusesSession, GraphsAnswer, SessionAnswers}
use Rattle.program_io.proofs.Public.{answered_by}
use Rattle.realm_top.proofs.SessionAnswers.{entries_answered, refused_session}
use Rattle.realm_top.proofs.sessions.answer_session.Goals as goal

pub returns-in-Ok-clause-answered : goal.returns-in-Ok-clause-answered
returns-in-Ok-clause-answered g c =
    let slots = most_slots c.args.request.slots in
    let bytes = c.args.bytes.now in
    let entries = c.in-Ok.entries.items in
    answered_by (GraphsAnswer slots (linked entries)) (SessionAnswers slots bytes) _ _ c.run_entries.result (entries_answered slots bytes entries c.in-Ok.ensures.text) c.run_entries.ensures.ran

pub returns-in-Err-clause-answered : goal.returns-in-Err-clause-answered
returns-in-Err-clause-answered g c =
    let slots = most_slots c.args.request.slots in
    let bytes = c.args.bytes.now in
    answered_by (RefusesSession bytes) (SessionAnswers slots bytes) _ _ c.refuse_session.result (refused_session slots bytes c.requires.short) (c.refuse_session.ensures.refused bytes c.in-Err.ensures.refusal)
