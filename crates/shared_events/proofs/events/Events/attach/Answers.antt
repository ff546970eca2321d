use Rattle.std.proofs.Common.{rules, arith, ◌≡◌, ◌∙◌, ap, sym, subst, [], refl, ◌<◌, ◌+◌, ◌-◌, ◌%◌}
use Rattle.std.specs.Prelude.{Contains}
use Rattle.event_table.specs.declared.handle.Shape.{Shape}
use Rattle.shared_events.specs.Seats.{waiters_of}
use Rattle.shared_events.proofs.Cuts.{joins, splits, deals}
use Rattle.shared_events.proofs.Growing.{grows_on}
use Rattle.shared_events.proofs.Link.{links}
use Rattle.shared_events.proofs.Place.{puts}
use Rattle.shared_events.proofs.Attach.{odd_word, in_hand, ready_now, placed_now, came_back}
use Rattle.shared_events.proofs.events.Events.attach.Goals as goal

pub join_seat-requires : goal.join_seat-requires
join_seat-requires c =
    let e = c.args.self.now.sized in (search rules, search rules, search rules, omega (arith, e.1, e.2), joins _ _ _ _ _ c.args.waiter.waiter.1)

pub store-requires : goal.store-requires
store-requires c =
    let e = c.args.self.now.sized in
    let all : waiters_of c.args.waiter.inner.me.0.keys ≡ c.args.self.now.shape.waiters = ap waiters_of c.requires.waiter.1 in
    let few = c.args.waiter.waiter.2 in
    let r = in_hand c.args.waiter.number c.args.seat.now.inner.me c.args.waiter.inner.me _ c.args.seat.now.plain c.args.waiter.waiter c.join_seat.ensures.2 in
    (search rules, omega (arith, e.1), links _ _ _ _ _ c.args.waiter.number r.0 _ [] r.1.hand (ap (λ (x : Shape). x.slots + c.args.waiter.number) (sym e.0)))

pub compare_exchange-again-requires : goal.compare_exchange-again-requires
compare_exchange-again-requires c =
    let e = c.args.self.now.sized in
    let o = odd_word c.args.found c.args.handle.gen_ c.requires.found in
    let r = ready_now c.args.waiter.number _ c.args.seat.now.inner.me c.args.waiter.inner.me _ _ c.args.seat.now.plain c.args.waiter.waiter c.join_seat.ensures.2 c.store.ensures.2 in
    (search rules, omega (arith, e.1, c.requires.slot.0), puts _ _ _ _ _ _ _ c.args.waiter.number (c.args.found % 4294967296 - 1) [] r.hand (subst (λ (x : Shape). c.args.handle.slot < x.slots) (sym e.0) c.requires.slot.0) (omega (arith, o.1)) (omega (arith, o.1, o.2)) (omega arith))

pub invariant_of-seat : goal.invariant_of-seat
invariant_of-seat c =
    let r = ready_now c.args.waiter.number _ c.args.seat.now.inner.me c.args.waiter.inner.me _ _ c.args.seat.now.plain c.args.waiter.waiter c.join_seat.ensures.2 c.store.ensures.2 in record { plain = (placed_now _ _ c.args.handle c.args.found c.args.seat.now.inner.me _ _ r c.requires.found (c.compare_exchange-again.ensures.2.0 c.if-again-found.true)).0 }

pub returns-then-again-found-clause-told : goal.returns-then-again-found-clause-told
returns-then-again-found-clause-told c =
    let r = ready_now c.args.waiter.number _ c.args.seat.now.inner.me c.args.waiter.inner.me _ _ c.args.seat.now.plain c.args.waiter.waiter c.join_seat.ensures.2 c.store.ensures.2 in
    let p = placed_now _ _ c.args.handle c.args.found c.args.seat.now.inner.me _ _ r c.requires.found (c.compare_exchange-again.ensures.2.0 c.if-again-found.true) in (p.2, p.1)

pub split_seat-back-requires : goal.split_seat-back-requires
split_seat-back-requires c =
    let e = c.args.self.now.sized in (search rules, omega (arith, e.1, e.2), splits _ _ _ _ _ (deals _))

pub invariant_of-seat-2 : goal.invariant_of-seat-2
invariant_of-seat-2 c =
    let b = came_back c.args.waiter.number _ c.args.handle _ c.args.seat.now.inner.me c.args.waiter.inner.me _ _ _ _ _ c.args.self.now.shape c.args.seat.now.plain c.args.waiter.waiter c.requires.at.1 c.requires.waiter.1 c.args.self.now.sized.3 c.join_seat.ensures.2 c.store.ensures.2 c.requires.seen (c.compare_exchange-again.ensures.2.1 c.if-again-found.false) c.split_seat-back.ensures.2 c.split_seat-back.ensures.4 in record { plain = b.plain }

pub invariant_of-waiter : goal.invariant_of-waiter
invariant_of-waiter c =
    let b = came_back c.args.waiter.number _ c.args.handle _ c.args.seat.now.inner.me c.args.waiter.inner.me _ _ _ _ _ c.args.self.now.shape c.args.seat.now.plain c.args.waiter.waiter c.requires.at.1 c.requires.waiter.1 c.args.self.now.sized.3 c.join_seat.ensures.2 c.store.ensures.2 c.requires.seen (c.compare_exchange-again.ensures.2.1 c.if-again-found.false) c.split_seat-back.ensures.2 c.split_seat-back.ensures.4 in record { waiter = b.waiter }

pub invariant_of-waiter-else-turns-handle : goal.invariant_of-waiter-else-turns-handle
invariant_of-waiter-else-turns-handle c =
    let b = came_back c.args.waiter.number _ c.args.handle _ c.args.seat.now.inner.me c.args.waiter.inner.me _ _ _ _ _ c.args.self.now.shape c.args.seat.now.plain c.args.waiter.waiter c.requires.at.1 c.requires.waiter.1 c.args.self.now.sized.3 c.join_seat.ensures.2 c.store.ensures.2 c.requires.seen (c.compare_exchange-again.ensures.2.1 c.if-again-found.false) c.split_seat-back.ensures.2 c.split_seat-back.ensures.4 in record { waiter = b.waiter }

pub fate_of-fate-requires-clause-past : goal.fate_of-fate-requires-clause-past
fate_of-fate-requires-clause-past c =
    let b = came_back c.args.waiter.number _ c.args.handle _ c.args.seat.now.inner.me c.args.waiter.inner.me _ _ _ _ _ c.args.self.now.shape c.args.seat.now.plain c.args.waiter.waiter c.requires.at.1 c.requires.waiter.1 c.args.self.now.sized.3 c.join_seat.ensures.2 c.store.ensures.2 c.requires.seen (c.compare_exchange-again.ensures.2.1 c.if-again-found.false) c.split_seat-back.ensures.2 c.split_seat-back.ensures.4 in b.ended (omega (arith, c.turns.ensures, c.if-turns-handle.true))

pub returns-then-turns-handle-clause-told : goal.returns-then-turns-handle-clause-told
returns-then-turns-handle-clause-told c =
    let b = came_back c.args.waiter.number _ c.args.handle _ c.args.seat.now.inner.me c.args.waiter.inner.me _ _ _ _ _ c.args.self.now.shape c.args.seat.now.plain c.args.waiter.waiter c.requires.at.1 c.requires.waiter.1 c.args.self.now.sized.3 c.join_seat.ensures.2 c.store.ensures.2 c.requires.seen (c.compare_exchange-again.ensures.2.1 c.if-again-found.false) c.split_seat-back.ensures.2 c.split_seat-back.ensures.4 in (c.fate_of-fate.ensures.known, c.fate_of-fate.ensures.same.1 ∙ b.placed, (refl, (c.split_seat-back.ensures.3 ∙ (c.compare_exchange-again.ensures.0 ∙ (c.store.ensures.0 ∙ (c.join_seat.ensures.0 ∙ c.requires.at.0))), b.keys ∙ c.requires.at.1)))

pub returns-else-turns-handle-clause-told : goal.returns-else-turns-handle-clause-told
returns-else-turns-handle-clause-told c =
    let b = came_back c.args.waiter.number _ c.args.handle _ c.args.seat.now.inner.me c.args.waiter.inner.me _ _ _ _ _ c.args.self.now.shape c.args.seat.now.plain c.args.waiter.waiter c.requires.at.1 c.requires.waiter.1 c.args.self.now.sized.3 c.join_seat.ensures.2 c.store.ensures.2 c.requires.seen (c.compare_exchange-again.ensures.2.1 c.if-again-found.false) c.split_seat-back.ensures.2 c.split_seat-back.ensures.4 in (c.compare_exchange-again.result, b.saw, b.pending (omega (arith, c.turns.ensures, c.if-turns-handle.false)), (λ e. c.if-again-found.false (sym e)), b.placed, (refl, (c.split_seat-back.ensures.3 ∙ (c.compare_exchange-again.ensures.0 ∙ (c.store.ensures.0 ∙ (c.join_seat.ensures.0 ∙ c.requires.at.0))), b.keys ∙ c.requires.at.1)))

pub returns-then-turns-handle-clause-grows : goal.returns-then-turns-handle-clause-grows
returns-then-turns-handle-clause-grows c =
    let b = came_back c.args.waiter.number _ c.args.handle _ c.args.seat.now.inner.me c.args.waiter.inner.me _ _ _ _ _ c.args.self.now.shape c.args.seat.now.plain c.args.waiter.waiter c.requires.at.1 c.requires.waiter.1 c.args.self.now.sized.3 c.join_seat.ensures.2 c.store.ensures.2 c.requires.seen (c.compare_exchange-again.ensures.2.1 c.if-again-found.false) c.split_seat-back.ensures.2 c.split_seat-back.ensures.4 in grows_on c.args.seat.now.inner.me.0 c.split_seat-back.new.seat.me.0 c.fate_of-fate.new.seat.inner.me.0 b.grows c.fate_of-fate.ensures.grows

pub returns-then-turns-handle-clause-left : goal.returns-then-turns-handle-clause-left
returns-then-turns-handle-clause-left c = λ f left over.
    let b = came_back c.args.waiter.number _ c.args.handle _ c.args.seat.now.inner.me c.args.waiter.inner.me _ _ _ _ _ c.args.self.now.shape c.args.seat.now.plain c.args.waiter.waiter c.requires.at.1 c.requires.waiter.1 c.args.self.now.sized.3 c.join_seat.ensures.2 c.store.ensures.2 c.requires.seen (c.compare_exchange-again.ensures.2.1 c.if-again-found.false) c.split_seat-back.ensures.2 c.split_seat-back.ensures.4 in
    c.fate_of-fate.ensures.coherent.left_pending c.args.handle _ (subst (λ l. Contains l c.args.handle) (sym (c.fate_of-fate.ensures.same.2 ∙ b.same_given.2)) left) c.fate_of-fate.ensures.known.known
