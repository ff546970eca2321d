use Rattle.std.proofs.Common.{◌≡◌, ap, sym, subst, ◌∙◌}
use Rattle.std.specs.Prelude.{Contains}
use Rattle.event_table.specs.declared.handle.Handle.{Handle}
use Rattle.shared_events.specs.Views.{handle_of, lists}
use Rattle.word_steps.specs.declared.content.Content.TheVariants.{PendingEvent}
use Rattle.word_loads.proofs.EventFacts.{pending_one}
use Rattle.word_loads.proofs.putting.end_event.Goals as goal

pub pending_of-pending-requires : goal.pending_of-pending-requires
pending_of-pending-requires c = let t = c.requires.top in (t.0, (c.take_out.ensures.hand (PendingEvent t.0) t.1 t.2).0)

pub returns-clause-now : goal.returns-clause-now
returns-clause-now c = λ pending left top.
    let o = c.take_out.ensures.hand (PendingEvent pending) left top in
    let same : c.pending_of-pending.result ≡ pending = pending_one c.pending_of-pending.result pending (sym c.pending_of-pending.ensures ∙ o.0) in
    let r = c.end-receipt.ensures.receipt in
    (c.end-receipt.result.0, (let view = c.put_in.ensures.view ∙ c.take_out.ensures.view in let hand = c.put_in.ensures.hand left o.1 in λ t. (view t, hand t)), r.0, r.1 ∙ ap handle_of same, r.2 ∙ c.fate.ensures, c.end-receipt.ensures.caught.1 ∙ ap handle_of same)

pub returns-clause-waiters : goal.returns-clause-waiters
returns-clause-waiters c = λ k at. c.end-receipt.ensures.waiters k (subst (λ (h : Handle). Contains (lists c.end-receipt.new.seat).placed (k, h)) c.end-receipt.ensures.caught.1 at)

pub returns-clause-given : goal.returns-clause-given
returns-clause-given c = c.end-receipt.ensures.given
