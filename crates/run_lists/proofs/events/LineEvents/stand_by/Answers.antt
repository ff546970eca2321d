use Rattle.std.proofs.Common.{◌≡◌, ◌<◌, true, false, length, inr, refl, sym, ◌∙◌, ap, subst, arith}
use Rattle.std.specs.Prelude.{Some, None, slice_get}
use Rattle.std.proofs.lemmas.List.{length-set}
use Rattle.std.proofs.lemmas.Option.{none-some, slice_get_past}
use Rattle.event_table.specs.declared.handle.Answer.TheVariants.{Pending}
use Rattle.event_table.specs.EventMap.{EventMap, IsFree}
use Rattle.run_lists.specs.Events.{EventsValue}
use Rattle.run_lists.proofs.MarkFacts.{marked_placed, busy_or_free, never_over, read_at, pending_shown, placed_shown}
use Rattle.run_lists.proofs.events.LineEvents.stand_by.Goals as goal
use Rattle.run_lists.proofs.events.LineEvents.stand_by.Goals.{then-index-via-then-index, then-index-via-else-index+then-source-len}

pub returns-then-index-clause-placed : goal.returns-then-index-clause-placed
returns-then-index-clause-placed c h at free =
    let s = c.self.inside in
    let near : c.args.line < length s.busy.items = omega (arith, c.self.invariant.marked.each, ap (λ (v : EventsValue). v.table.waiters) c.self.view_is, c.requires.line) in
    let here : slice_get s.handles.items c.args.source ≡ Some h = subst (λ (v : EventsValue). slice_get v.handles c.args.source ≡ Some h) (sym c.self.view_is) at in
    elim c.then-index.branch [
      | then-index-via-then-index w ↦ absurd (busy_or_free s.table s.busy.items c.args.line c.self.invariant.marked (read_at s.busy.items c.args.line c.index.result.now true near c.index.ensures w.if-index.true) (subst (λ (v : EventsValue). IsFree v.table c.args.line) (sym c.self.view_is) free))
      | then-index-via-else-index+then-source-len w ↦ absurd (none-some h (sym (slice_get_past s.handles.items c.args.source (omega (arith, w.len.ensures, w.if-source-len.true))) ∙ here))
    ]

pub watch-requires-clause-created : goal.watch-requires-clause-created
watch-requires-clause-created c =
    let s = c.self.inside in
    let near : c.args.source < length s.handles.items = omega (arith, c.len.ensures, c.if-source-len.false) in
    let at : slice_get s.handles.items c.args.source ≡ Some c.index-2.result.now = read_at s.handles.items c.args.source c.index-2.result.now c.index-2.result.now near c.index-2.ensures refl in
    record { created = inr (Pending, pending_shown _ c.args.self.now c.self.view_is c.args.source c.index-2.result.now at c.requires.pending) }

pub watch-requires-clause-waiter : goal.watch-requires-clause-waiter
watch-requires-clause-waiter c =
    let s = c.self.inside in
    let near : c.args.line < length s.busy.items = omega (arith, c.self.invariant.marked.each, ap (λ (v : EventsValue). v.table.waiters) c.self.view_is, c.requires.line) in
    c.self.invariant.marked.free c.args.line (read_at s.busy.items c.args.line c.index.result.now false near c.index.ensures c.if-index.false)

pub invariant_of-self : goal.invariant_of-self
invariant_of-self c =
    let s = c.self.inside in
    let inv = c.self.invariant in
    let h = c.index-2.result.now in
    let near : c.args.source < length s.handles.items = omega (arith, c.len.ensures, c.if-source-len.false) in
    let at : slice_get s.handles.items c.args.source ≡ Some h = read_at s.handles.items c.args.source h h near c.index-2.ensures refl in
    let pending = pending_shown _ c.args.self.now c.self.view_is c.args.source h at c.requires.pending in
    let line : c.args.line < s.table.waiters = subst (λ (v : EventsValue). c.args.line < v.table.waiters) (sym c.self.view_is) c.requires.line in
    let is = c.in-Placed.ensures.map.1 in
    let waiters = ap (λ (m : EventMap). m.waiters) is in
    let slots = ap (λ (m : EventMap). length m.slots) is ∙ length-set s.table.slots h.slot _ in
    record {
      marked = marked_placed s.table c.watch.new.self s.busy.items h c.args.line is pending line (c.in-Placed.ensures.placed refl) c.in-Placed.ensures.free inv.marked;
      room = omega (arith, waiters, inv.room);
      each = omega (arith, waiters, inv.each);
      waiters = omega (arith, waiters, inv.waiters);
      slots = omega (arith, slots, inv.slots);
    }

pub returns-in-Placed-clause-placed : goal.returns-in-Placed-clause-placed
returns-in-Placed-clause-placed c h read free =
    let s = c.self.inside in
    let near : c.args.source < length s.handles.items = omega (arith, c.len.ensures, c.if-source-len.false) in
    let at : slice_get s.handles.items c.args.source ≡ Some c.index-2.result.now = read_at s.handles.items c.args.source c.index-2.result.now c.index-2.result.now near c.index-2.ensures refl in
    placed_shown _ c.args.self.now c.self.view_is c.watch.new.self c.args.source c.args.line c.index-2.result.now at c.in-Placed.ensures.map.1 h read

pub returns-in-Placed-clause-unissued : goal.returns-in-Placed-clause-unissued
returns-in-Placed-clause-unissued c none =
    let s = c.self.inside in
    let near : c.args.source < length s.handles.items = omega (arith, c.len.ensures, c.if-source-len.false) in
    let at : slice_get s.handles.items c.args.source ≡ Some c.index-2.result.now = read_at s.handles.items c.args.source c.index-2.result.now c.index-2.result.now near c.index-2.ensures refl in
    absurd (none-some c.index-2.result.now (sym (subst (λ (v : EventsValue). slice_get v.handles c.args.source ≡ None) (sym c.self.view_is) none) ∙ at))

pub returns-in-Placed-clause-busy : goal.returns-in-Placed-clause-busy
returns-in-Placed-clause-busy c busy =
    let s = c.self.inside in
    let near : c.args.line < length s.busy.items = omega (arith, c.self.invariant.marked.each, ap (λ (v : EventsValue). v.table.waiters) c.self.view_is, c.requires.line) in
    absurd (busy (subst (λ (v : EventsValue). IsFree v.table c.args.line) c.self.view_is (c.self.invariant.marked.free c.args.line (read_at s.busy.items c.args.line c.index.result.now false near c.index.ensures c.if-index.false))))

pub returns-in_default-clause-placed : goal.returns-in_default-clause-placed
returns-in_default-clause-placed c h read free =
    let s = c.self.inside in
    let near : c.args.source < length s.handles.items = omega (arith, c.len.ensures, c.if-source-len.false) in
    let at : slice_get s.handles.items c.args.source ≡ Some c.index-2.result.now = read_at s.handles.items c.args.source c.index-2.result.now c.index-2.result.now near c.index-2.ensures refl in
    absurd (never_over s.table c.watch.new.self c.index-2.result.now c.args.line c.in_default.field-0 c.in_default.ensures.map (pending_shown _ c.args.self.now c.self.view_is c.args.source c.index-2.result.now at c.requires.pending) c.self.invariant.slots)
