use Rattle.std.proofs.Common.{◌∙◌, subst}
use Rattle.session_run.specs.Linked.{LinkedGraph}
use Rattle.session_run.specs.Running.{ran_by, slots_of}
use Rattle.session_run.specs.Session.{Refuses}
use Rattle.session_run.proofs.session.run_next.Goals as goal

pub returns-in-Err-check-clause-refused : goal.returns-in-Err-check-clause-refused
returns-in-Err-check-clause-refused g c =
    (let l = c.in-Ok.ensures.linked in
    let m = c.in-Err-check.ensures.given_back ∙ l.1 in
    subst (λ (x : LinkedGraph). Refuses (slots_of c.args.running) (ran_by c.args.running) x c.unfit_fault.result) (λ k. record { name = l.0 k; graph = m k })
    (c.unfit_fault.ensures (slots_of c.args.running) (ran_by c.args.running)))
