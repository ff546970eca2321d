use Rattle.std.proofs.Common.{sym, subst, arith}
use Rattle.graph_meaning.specs.Rules.{Accepted}
use Rattle.graph_gen.specs.MadeGraph.{made_graph}
use Rattle.graph_answers.specs.Answer.{Judged}
use Rattle.realm_top.specs.Answer.{MadeAnswers, purpose}
use Rattle.program_io.proofs.Public.{answered_by}
use Rattle.realm_top.proofs.Answered.{judged_served}
use Rattle.realm_top.proofs.Ending.{made_ends}
use Rattle.realm_top.proofs.MadeRequests.{text_made, served_made}
use Rattle.realm_top.proofs.Requests.{made_else}
use Rattle.realm_top.proofs.making.answer_made.Goals as goal

pub judge-requires-clause-checks : goal.judge-requires-clause-checks
judge-requires-clause-checks g c = λ κs lives. made_else (purpose c.args.request.action) c.requires.makes

pub returns-then-request-clause-answered : goal.returns-then-request-clause-answered
returns-then-request-clause-answered g c = text_made c.args.request _ _ c.put_graph_text.result c.in-Ok.graph c.if-request.true c.in-Ok.ensures.graph c.put_graph_text.ensures

pub returns-else-request-clause-answered : goal.returns-else-request-clause-answered
returns-else-request-clause-answered g c =
    let request = c.args.request in
    let accepted = subst Accepted (sym c.in-Ok.ensures.graph) (c.made_graphs_are_accepted.ensures request.seed request.size (omega arith) c.requires.size.0 c.requires.size.1) in
    answered_by (Judged request c.in-Ok.graph) (MadeAnswers request.text request (made_graph request.seed request.size)) _ _ c.judge.result
    (λ status out j. served_made request c.in-Ok.graph c.if-request.false c.in-Ok.ensures.graph status out (judged_served request c.in-Ok.graph accepted status out j)) c.judge.ensures.settled

pub returns-else-request-clause-of_action : goal.returns-else-request-clause-of_action
returns-else-request-clause-of_action g c = made_ends c.args.request _ _ _ c.judge.result c.requires.makes (returns-else-request-clause-answered g c)
