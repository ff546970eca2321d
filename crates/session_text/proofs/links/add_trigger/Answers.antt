use Rattle.std.proofs.Common.{ap, sym, ◌∙◌}
use Rattle.std.proofs.lemmas.Result.{IfOk-weaker, on_ok_weaker}
use Rattle.graph_terms.specs.Fits.{is_used, with_line}
use Rattle.std.specs.Prelude.{not}
use Rattle.session_text.proofs.Naming.{line_there, line_not_there, never_fits}
use Rattle.session_text.proofs.links.add_trigger.Goals as goal

pub returns-in-Some-clause-fault : goal.returns-in-Some-clause-fault
returns-in-Some-clause-fault c =
    let at = line_there c.args.graph.now c.args.link.now c.in-Some.user (sym c.in-Some.ensures) in
    IfOk-weaker c.offer_trigger.result _ _ (λ why e. e ∙ sym at.0) c.offer_trigger.ensures.fault

pub returns-in-Some-clause-added : goal.returns-in-Some-clause-added
returns-in-Some-clause-added c =
    let at = line_there c.args.graph.now c.args.link.now c.in-Some.user (sym c.in-Some.ensures) in
    on_ok_weaker c.offer_trigger.result (λ h none. h (sym at.0 ∙ none) ∙ ap (with_line c.args.graph.now) (sym at.1)) c.offer_trigger.ensures.added

pub returns-in-None-clause-fault : goal.returns-in-None-clause-fault
returns-in-None-clause-fault c = c.no_user_reason.ensures ∙ sym (line_not_there c.args.graph.now c.args.link.now (sym c.in-None.ensures))

pub returns-in-None-clause-added : goal.returns-in-None-clause-added
returns-in-None-clause-added c = λ none.
    absurd (never_fits (is_used c.args.graph.now c.args.link.now.line) (not (is_used c.args.graph.now c.args.link.now.user)) (sym (line_not_there c.args.graph.now c.args.link.now (sym c.in-None.ensures)) ∙ none))
