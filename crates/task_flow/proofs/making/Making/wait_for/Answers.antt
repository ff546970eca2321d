use Rattle.std.proofs.Common.{◌∙◌, ap, Err, map}
use Rattle.std.proofs.lemmas.Result.{err_from_is_err_and}
use Rattle.flow_order.specs.SourceParts.{Parts}
use Rattle.task_flow.specs.Construction.{place_in}
use Rattle.task_flow.specs.Making.{made_of}
use Rattle.task_flow.specs.declared.making.Stop.TheVariants.{Limit}
use Rattle.task_flow.proofs.Growth.{wait_past, err_same}
use Rattle.task_flow.proofs.making.Making.wait_for.Goals as goal

pub returns-in_err-events-clause-limit : goal.returns-in_err-events-clause-limit
returns-in_err-events-clause-limit c = λ h.
    let p = err_from_is_err_and c.from_residual-in_err-events.result c.from_residual-in_err-events.ensures.1 in
    wait_past c.args.parts.now (made_of c.args.self.now) c.in_ok-small.small c.as_slice.result.now (c.in_ok-small.ensures ∙ ap (λ (q : Parts). map (place_in (made_of c.args.self.now)) q.small) c.parts.view_is) (c.as_slice.ensures.value ∙ ap (λ (q : Parts). q.large) c.parts.view_is)
    (c.in_err-events.ensures.limit (ap (λ e. Err e) (err_same c.from_residual-in_err-events.result p.0 c.in_err-events.field-0.0 Limit p.1 p.2 h)))
