use Rattle.std.proofs.Common.{suc, drop, length, refl, sym, ◌∙◌, ap, Err}
use Rattle.std.proofs.lemmas.Option.{slice_get_read}
use Rattle.std.proofs.lemmas.Result.{err_from_is_err_and}
use Rattle.task_flow.specs.Construction.{events_for}
use Rattle.task_flow.specs.Making.{made_of}
use Rattle.task_flow.specs.declared.making.Stop.TheVariants.{Limit}
use Rattle.basics.proofs.ListParts.{drop_at}
use Rattle.task_flow.proofs.Growth.{events_past, err_same}
use Rattle.task_flow.proofs.making.Making.events_for.Goals as goal

pub returns-in_err-event-clause-limit : goal.returns-in_err-event-clause-limit
returns-in_err-event-clause-limit c = λ h.
    let p = err_from_is_err_and c.from_residual-in_err-event.result c.from_residual-in_err-event.ensures.1 in
    let large = c.args.large.now in
    let m = made_of c.loop-part.self in
    let at = drop_at large c.loop-part.part-index c.part-item.result (slice_get_read large (length large) c.loop-part.part-index c.part-item.result refl c.loop-part-test.true c.part-item.is) in
    events_past c.loop-part.all c.part-item.result (drop (suc c.loop-part.part-index) large) m c.in_ok-places.places (events_for c.args.events large (made_of c.args.self.now)) c.in_ok-places.ensures
    (ap (λ ps. events_for c.loop-part.all ps m) (sym at) ∙ c.loop-part.invariant.same) (c.in_err-event.ensures.limit (ap (λ e. Err e) (err_same c.from_residual-in_err-event.result p.0 c.in_err-event.field-0.0 Limit p.1 p.2 h)))
