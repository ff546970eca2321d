use Rattle.graph_answers.specs.Refused.{Rejects}
use Rattle.graph_answers.specs.Answer.{Served, Judged}
use Rattle.program_io.proofs.Public.{answered_by}
use Rattle.realm_top.proofs.Answered.{served_judged, rejected_judged}
use Rattle.realm_top.proofs.input.judge.Goals as goal

pub returns-in-Ok-clause-settled : goal.returns-in-Ok-clause-settled
returns-in-Ok-clause-settled g c =
    let request = c.args.request in
    answered_by (Served request c.in-Ok.checked.graph) (Judged request c.args.graph) _ _ c.serve.result (served_judged request c.in-Ok.checked.graph c.args.graph c.in-Ok.ensures.accepted.0 c.in-Ok.ensures.accepted.1) c.serve.ensures.served

pub returns-in-Err-clause-settled : goal.returns-in-Err-clause-settled
returns-in-Err-clause-settled g c =
    let request = c.args.request in
    answered_by (Rejects c.in-Err.unfit.graph) (Judged request c.args.graph) _ _ c.reject.result (rejected_judged request c.in-Err.unfit.graph c.args.graph c.in-Err.ensures.given_back) c.reject.ensures.rejected
