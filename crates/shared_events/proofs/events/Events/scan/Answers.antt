use Rattle.std.proofs.Common.{rules, arith, ◌∙◌, ap, sym, subst, refl, ◌<◌}
use Rattle.event_table.specs.declared.handle.Shape.{Shape}
use Rattle.shared_events.proofs.Scout.{scouts, scout_past, scans_more, scans_none, scans_fewer, comes_next, scout_keeps, holds_more, held_none, held_fewer}
use Rattle.shared_events.proofs.events.Events.scan.Goals as goal

pub load-found-requires : goal.load-found-requires
load-found-requires c = let e = c.args.self.now.sized in
    let small : c.loop-slot.slot < c.args.self.now.shape.slots = omega (arith, c.loop-slot-test.true, c.requires.high) in
    (search rules, omega (arith, e.1, small), scouts _ _ _ _ _ (subst (λ (x : Shape). c.loop-slot.slot < x.slots) (sym e.0) small))

pub overflow_add-slot : goal.overflow_add-slot
overflow_add-slot c = let e = c.args.self.now.sized in omega (arith, e.4, c.loop-slot-test.true, c.requires.high)

pub loop-slot-init : goal.loop-slot-init
loop-slot-init c = record { at = c.requires.maker; from = omega arith; made = (refl, refl); held = held_none c.args.self.now.shape c.args.maker.now.inner.me.0.made c.args.maker.now.inner.me.0 c.args.low; known = λ h d. d; scanned = scans_none c.args.self.now.shape c.args.maker.now.inner.me.0.made c.args.maker.now.inner.me.0 c.args.low }

pub loop-slot-preserved : goal.loop-slot-preserved
loop-slot-preserved c = let t = c.load-found.ensures.2 in let i = c.loop-slot.invariant in record {
  at = (c.load-found.ensures.0 ∙ i.at.0, ap (λ m. m.0.keys) t.0 ∙ i.at.1);
  from = omega (arith, i.from);
  made = (ap (λ m. m.0.made) t.0 ∙ i.made.0, i.made.1);
  held = holds_more c.args.self.now.shape c.args.maker.now.inner.me.0.made c.args.maker.now.inner.me.0 c.loop-slot.maker.inner.me.0 c.args.low c.loop-slot.slot c.load-found.result i.made.0 i.held i.known i.at.1 c.loop-slot.maker.makes.0.1 t.1 t.2 c.if-found-eq0.false;
  known = λ h d. scout_keeps c.loop-slot.maker.inner.me c.load-found.new.seat.me c.loop-slot.slot c.load-found.result h t (i.known h d);
  scanned = scans_more c.args.self.now.shape c.args.maker.now.inner.me.0.made c.args.maker.now.inner.me.0 c.loop-slot.maker.inner.me.0 c.load-found.new.seat.me.0 c.args.low c.loop-slot.slot c.load-found.result i.made.0 i.scanned i.at.1 c.loop-slot.maker.makes.0.1 (ap (λ m. m.0) t.0) t.1 c.if-found-eq0.false;
}

pub returns-then-found-eq0-clause-past : goal.returns-then-found-eq0-clause-past
returns-then-found-eq0-clause-past c = scout_past c.loop-slot.maker.inner.me c.load-found.new.seat.me c.loop-slot.slot c.load-found.result c.load-found.ensures.2 c.loop-slot.maker.makes.2 c.if-found-eq0.true

pub returns-clause-none : goal.returns-clause-none
returns-clause-none c = scans_fewer c.args.self.now.shape c.args.maker.now.inner.me.0.made c.args.maker.now.inner.me.0 c.loop-slot.maker.inner.me.0 c.args.low c.loop-slot.slot c.args.high c.loop-slot.invariant.scanned (omega (arith, c.loop-slot-test.false))

pub returns-then-found-eq0-clause-next : goal.returns-then-found-eq0-clause-next
returns-then-found-eq0-clause-next c = let i = c.loop-slot.invariant in let t = c.load-found.ensures.2 in
    (i.made.1, comes_next c.args.self.now.shape c.args.maker.now.inner.me.0.made c.load-found.new.seat.me.0.made c.args.maker.now.inner.me.0 c.loop-slot.maker.inner.me.0 c.args.low c.loop-slot.slot i.scanned i.from (ap (λ m. m.0.made) t.0 ∙ i.made.0))

pub returns-clause-held : goal.returns-clause-held
returns-clause-held c = held_fewer c.args.self.now.shape c.args.maker.now.inner.me.0.made c.args.maker.now.inner.me.0 c.args.low c.loop-slot.slot c.args.high c.loop-slot.invariant.held (omega (arith, c.loop-slot-test.false))

pub returns-then-found-eq0-clause-known : goal.returns-then-found-eq0-clause-known
returns-then-found-eq0-clause-known c = λ h d. scout_keeps c.loop-slot.maker.inner.me c.load-found.new.seat.me c.loop-slot.slot c.load-found.result h c.load-found.ensures.2 (c.loop-slot.invariant.known h d)
