use Rattle.std.proofs.Common.{rules, arith, ◌∙◌, ap, sym, subst, inr, refl, ◌<◌}
use Rattle.std.specs.Prelude.{Contains}
use Rattle.event_table.specs.declared.handle.Shape.{Shape}
use Rattle.shared_events.specs.Views.{lists}
use Rattle.event_table.specs.declared.handle.Fate.{Fate}
use Rattle.shared_events.specs.declared.tokens.Watch.TheVariants.{Over}
use Rattle.shared_events.proofs.Growing.{begins_has, grows_look, keeps, keeps_on}
use Rattle.shared_events.proofs.Looks.{finds}
use Rattle.shared_events.proofs.Steps.{looks}
use Rattle.shared_events.proofs.Watches.{watched}
use Rattle.shared_events.proofs.events.Events.watch.Goals as goal

pub load-found-requires : goal.load-found-requires
load-found-requires c = let e = c.args.self.now.sized in let low = c.word_of-at.ensures.slot in
    (search rules, omega (arith, e.1), looks c.args.self.now.table.shared.key _ _ _ _ (subst (λ (x : Shape). c.word_of-at.result < x.slots) (sym e.0) low))

pub fate_of-fate-requires-clause-made : goal.fate_of-fate-requires-clause-made
fate_of-fate-requires-clause-made c = (finds _ _ c.args.seat.now.inner.me _ c.args.handle c.args.self.now.shape c.load-found.ensures.2 c.requires.at.1 (c.is_no_event.ensures.some c.if-is_no_event.false) c.requires.seen c.word_of-at.ensures.same).within

pub fate_of-fate-requires-clause-past : goal.fate_of-fate-requires-clause-past
fate_of-fate-requires-clause-past c = (finds _ _ c.args.seat.now.inner.me _ c.args.handle c.args.self.now.shape c.load-found.ensures.2 c.requires.at.1 (c.is_no_event.ensures.some c.if-is_no_event.false) c.requires.seen c.word_of-at.ensures.same).ended (omega (arith, c.turns.ensures, c.if-turns-handle.true))

pub returns-then-turns-handle-clause-told : goal.returns-then-turns-handle-clause-told
returns-then-turns-handle-clause-told c = let t = c.load-found.ensures.2 in
    (inr c.fate_of-fate.ensures.known, c.fate_of-fate.ensures.same.1 ∙ ap (λ n. n.0.placed) t.0, (refl, c.requires.waiter))

pub attach-requires-clause-seen : goal.attach-requires-clause-seen
attach-requires-clause-seen c = let seen = (finds _ _ c.args.seat.now.inner.me _ c.args.handle c.args.self.now.shape c.load-found.ensures.2 c.requires.at.1 (c.is_no_event.ensures.some c.if-is_no_event.false) c.requires.seen c.word_of-at.ensures.same).seen in
    subst (λ l. Contains l c.args.handle) (sym (ap (λ n. n.0.seen) c.load-found.ensures.2.0)) seen

pub attach-requires-clause-slot : goal.attach-requires-clause-slot
attach-requires-clause-slot c = (finds _ _ c.args.seat.now.inner.me _ c.args.handle c.args.self.now.shape c.load-found.ensures.2 c.requires.at.1 (c.is_no_event.ensures.some c.if-is_no_event.false) c.requires.seen c.word_of-at.ensures.same).within

pub attach-requires-clause-found : goal.attach-requires-clause-found
attach-requires-clause-found c = ((finds _ _ c.args.seat.now.inner.me _ c.args.handle c.args.self.now.shape c.load-found.ensures.2 c.requires.at.1 (c.is_no_event.ensures.some c.if-is_no_event.false) c.requires.seen c.word_of-at.ensures.same).pending (omega (arith, c.turns.ensures, c.if-turns-handle.false))).0

pub returns-clause-told : goal.returns-clause-told
returns-clause-told c = let p = (finds _ _ c.args.seat.now.inner.me _ c.args.handle c.args.self.now.shape c.load-found.ensures.2 c.requires.at.1 (c.is_no_event.ensures.some c.if-is_no_event.false) c.requires.seen c.word_of-at.ensures.same).pending (omega (arith, c.turns.ensures, c.if-turns-handle.false)) in
    watched c.args.self.now (lists c.args.seat.now) c.load-found.new.seat.me.0 (lists c.attach.new.seat) c.args.handle c.load-found.result c.args.waiter c.attach.result p.1 (ap (λ n. n.0.placed) c.load-found.ensures.2.0) p.0 c.attach.ensures.told

pub returns-then-turns-handle-clause-known : goal.returns-then-turns-handle-clause-known
returns-then-turns-handle-clause-known c = λ f some known. let t = c.load-found.ensures.2 in let e = c.fate_of-fate.ensures in
    (c.args.waiter, ap (λ (g : Fate). Over g c.args.waiter) (e.coherent.one_fate c.args.handle _ f e.known.known (begins_has _ _ (c.args.handle, f) e.grows.1 (begins_has _ _ (c.args.handle, f) (grows_look _ _ _ _ t).1 known.known))))

pub returns-then-turns-handle-clause-past : goal.returns-then-turns-handle-clause-past
returns-then-turns-handle-clause-past c = λ some past. (c.fate_of-fate.result, (c.args.waiter, refl))

pub returns-then-turns-handle-clause-emptied : goal.returns-then-turns-handle-clause-emptied
returns-then-turns-handle-clause-emptied c = λ some emptied. (c.fate_of-fate.result, (c.args.waiter, refl))

pub returns-then-turns-handle-clause-left : goal.returns-then-turns-handle-clause-left
returns-then-turns-handle-clause-left c = λ f some left over. (finds _ _ c.args.seat.now.inner.me _ c.args.handle c.args.self.now.shape c.load-found.ensures.2 c.requires.at.1 some c.requires.seen c.word_of-at.ensures.same).unleft (omega (arith, c.turns.ensures, c.if-turns-handle.true)) left

pub returns-clause-kept : goal.returns-clause-kept
returns-clause-kept c = keeps_on _ _ _ (keeps c.args.seat.now.inner.me.0 c.load-found.new.seat.me.0 (grows_look _ _ _ _ c.load-found.ensures.2)) (keeps c.load-found.new.seat.me.0 c.attach.new.seat.inner.me.0 c.attach.ensures.grows)

pub returns-clause-known : goal.returns-clause-known
returns-clause-known c = λ f some known. let a = (finds _ _ c.args.seat.now.inner.me _ c.args.handle c.args.self.now.shape c.load-found.ensures.2 c.requires.at.1 some c.requires.seen c.word_of-at.ensures.same).known_ended f known in absurd (omega (arith, c.turns.ensures, c.if-turns-handle.false))

pub returns-clause-past : goal.returns-clause-past
returns-clause-past c = λ some past. let a = (finds _ _ c.args.seat.now.inner.me _ c.args.handle c.args.self.now.shape c.load-found.ensures.2 c.requires.at.1 some c.requires.seen c.word_of-at.ensures.same).past_ended past in absurd (omega (arith, c.turns.ensures, c.if-turns-handle.false))

pub returns-clause-emptied : goal.returns-clause-emptied
returns-clause-emptied c = λ some emptied. let a = (finds _ _ c.args.seat.now.inner.me _ c.args.handle c.args.self.now.shape c.load-found.ensures.2 c.requires.at.1 some c.requires.seen c.word_of-at.ensures.same).emptied_ended emptied in absurd (omega (arith, c.turns.ensures, c.if-turns-handle.false))

pub returns-clause-left : goal.returns-clause-left
returns-clause-left c = λ f some left over. let t = c.load-found.ensures.2 in
    c.attach.ensures.left f (subst (λ l. Contains l c.args.handle) (sym (ap (λ n. n.0.left) t.0)) left) over

pub returns-then-turns-handle-clause-kept : goal.returns-then-turns-handle-clause-kept
returns-then-turns-handle-clause-kept c = keeps_on _ _ _ (keeps c.args.seat.now.inner.me.0 c.load-found.new.seat.me.0 (grows_look _ _ _ _ c.load-found.ensures.2)) c.fate_of-fate.ensures.kept
