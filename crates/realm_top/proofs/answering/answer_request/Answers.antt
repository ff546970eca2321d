use Rattle.std.proofs.Common.{sym, inr}
use Rattle.realm_top.proofs.Requests.{answered_made}
use Rattle.realm_top.proofs.answering.answer_request.Goals as goal

pub returns-else-reads-clause-answered : goal.returns-else-reads-clause-answered
returns-else-reads-clause-answered g c = inr (answered_made c.args.request (sym c.if-reads.ensures) (g.S.Source.left c.args.source.now) _ _ c.answer_made.result c.answer_made.ensures.answered)
