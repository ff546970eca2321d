use Rattle.std.proofs.Common.{◌≡◌, ◌<◌, length, take, ap, ◌∙◌, arith}
use Rattle.std.proofs.lemmas.List.{length-take-le}
use Rattle.graph_copies.proofs.lines.copy_of_events.Goals as goal

pub push-requires : goal.push-requires
push-requires c =
    let same : c.loop-event.copy ≡ take c.loop-event.event-index c.as_slice-event-items.result.now = c.loop-event.invariant.0 in
    let short : c.loop-event.event-index < length c.as_slice-event-items.result.now = c.loop-event-test.true in
    let size : length c.loop-event.copy ≡ c.loop-event.event-index = ap length same ∙ length-take-le c.loop-event.event-index c.as_slice-event-items.result.now (omega (arith, short)) in
    omega (arith, size, short, ap length c.as_slice-event-items.ensures, c.len.ensures)
