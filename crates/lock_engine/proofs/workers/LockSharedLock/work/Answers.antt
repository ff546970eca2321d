use Rattle.std.proofs.Common.{Some, sym, ap, subst, ◌∙◌}
use Rattle.lock_engine.specs.Seats.{HasWork}
use Rattle.lock_engine.proofs.workers.LockSharedLock.work.Goals as goal

pub loop-turn-preserved : goal.loop-turn-preserved
loop-turn-preserved g c =
    let v = c.next_line.new.seat.me.0 in
    let e = c.next_line.ensures in
    let kept = c.loop-turn.invariant in
    let has = subst (HasWork v) c.in-Some-next_line.is e.work in
    let graph = e.place.graph ∙ kept.5 in
    (tt, tt, e.place.waiting, (has.0 ∙ ap Some (sym c.perform.ensures.line), c.perform.ensures.finished v.core has.1 graph has.2), e.place.parts ∙ kept.4, graph)
