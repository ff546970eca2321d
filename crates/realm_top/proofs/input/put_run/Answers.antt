use Rattle.std.proofs.Common.{refl, sym, ◌∙◌, ap}
use Rattle.realm_io.proofs.Public.{writes_as}
use Rattle.graph_answers.specs.Answer.{run_text}
use Rattle.realm_top.proofs.MadeRequests.{summed_up, run_reports}
use Rattle.realm_top.proofs.input.put_run.Goals as goal

pub returns-in-Make : goal.returns-in-Make
returns-in-Make g c =
    let found = c.args.found.now in
    writes_as _ _ _ _ c.put_summary.result (summed_up c.args.graph.now c.args.graph.now found found.trace refl c.requires.outcome ∙ sym (ap (λ x. run_text x c.args.request.now.trace c.args.graph.now found.trace) c.in-Make.is)) c.put_summary.ensures

pub returns-in_default : goal.returns-in_default
returns-in_default g c = writes_as _ _ _ _ c.put_outcome.result (sym (run_reports c.args.request.now.action c.args.request.now.trace c.args.graph.now c.args.found.now.trace c.in_default.not-Make)) c.put_outcome.ensures
