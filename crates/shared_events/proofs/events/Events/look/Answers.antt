use Rattle.std.proofs.Common.{rules, arith, ap, sym, subst, ◌<◌}
use Rattle.event_table.specs.declared.handle.Shape.{Shape}
use Rattle.shared_events.proofs.Looks.{finds}
use Rattle.shared_events.specs.Views.{answer_of}
use Rattle.shared_events.proofs.Growing.{begins_has, grows_look, keeps, keeps_on}
use Rattle.shared_events.proofs.Steps.{looks}
use Rattle.shared_events.proofs.events.Events.look.Goals as goal

pub load-found-requires : goal.load-found-requires
load-found-requires c = let e = c.args.self.now.sized in let low = c.word_of-at.ensures.slot in
    (search rules, omega (arith, e.1), looks c.args.self.now.table.shared.key _ _ _ _ (subst (λ (x : Shape). c.word_of-at.result < x.slots) (sym e.0) low))

pub returns-then-turns-handle-clause-pending : goal.returns-then-turns-handle-clause-pending
returns-then-turns-handle-clause-pending c = λ _. let f = finds _ _ c.args.seat.now.inner.me _ c.args.handle c.args.self.now.shape c.load-found.ensures.2 c.requires.at.1 (c.is_no_event.ensures.some c.if-is_no_event.false) c.requires.seen c.word_of-at.ensures.same in let p = f.pending (omega (arith, c.turns.ensures, c.if-turns-handle.true)) in
    ((c.load-found.result, p.1, p.0), λ g k. let a = f.known_ended g k in omega (arith, c.turns.ensures, c.if-turns-handle.true))

pub fate_of-requires-clause-made : goal.fate_of-requires-clause-made
fate_of-requires-clause-made c = (finds _ _ c.args.seat.now.inner.me _ c.args.handle c.args.self.now.shape c.load-found.ensures.2 c.requires.at.1 (c.is_no_event.ensures.some c.if-is_no_event.false) c.requires.seen c.word_of-at.ensures.same).within

pub fate_of-requires-clause-past : goal.fate_of-requires-clause-past
fate_of-requires-clause-past c = (finds _ _ c.args.seat.now.inner.me _ c.args.handle c.args.self.now.shape c.load-found.ensures.2 c.requires.at.1 (c.is_no_event.ensures.some c.if-is_no_event.false) c.requires.seen c.word_of-at.ensures.same).ended (omega (arith, c.turns.ensures, c.if-turns-handle.false))

pub returns-in-Ok-clause-left : goal.returns-in-Ok-clause-left
returns-in-Ok-clause-left c = λ some left. absurd ((finds _ _ c.args.seat.now.inner.me _ c.args.handle c.args.self.now.shape c.load-found.ensures.2 c.requires.at.1 some c.requires.seen c.word_of-at.ensures.same).unleft (omega (arith, c.turns.ensures, c.if-turns-handle.false)) left)

pub returns-in-Poison-clause-left : goal.returns-in-Poison-clause-left
returns-in-Poison-clause-left c = λ some left. absurd ((finds _ _ c.args.seat.now.inner.me _ c.args.handle c.args.self.now.shape c.load-found.ensures.2 c.requires.at.1 some c.requires.seen c.word_of-at.ensures.same).unleft (omega (arith, c.turns.ensures, c.if-turns-handle.false)) left)

pub returns-in-Ok-clause-known : goal.returns-in-Ok-clause-known
returns-in-Ok-clause-known c = λ f some known. let t = c.load-found.ensures.2 in let e = c.in-Ok.ensures in
    ap answer_of (e.coherent.one_fate c.args.handle _ f e.known.known (begins_has _ _ (c.args.handle, f) e.grows.1 (begins_has _ _ (c.args.handle, f) (grows_look _ _ _ _ t).1 known.known)))

pub returns-in-Poison-clause-known : goal.returns-in-Poison-clause-known
returns-in-Poison-clause-known c = λ f some known. let t = c.load-found.ensures.2 in let e = c.in-Poison.ensures in
    ap answer_of (e.coherent.one_fate c.args.handle _ f e.known.known (begins_has _ _ (c.args.handle, f) e.grows.1 (begins_has _ _ (c.args.handle, f) (grows_look _ _ _ _ t).1 known.known)))

pub returns-then-turns-handle-clause-known : goal.returns-then-turns-handle-clause-known
returns-then-turns-handle-clause-known c = λ f some known. let a = (finds _ _ c.args.seat.now.inner.me _ c.args.handle c.args.self.now.shape c.load-found.ensures.2 c.requires.at.1 some c.requires.seen c.word_of-at.ensures.same).known_ended f known in absurd (omega (arith, c.turns.ensures, c.if-turns-handle.true))

pub returns-then-turns-handle-clause-kept : goal.returns-then-turns-handle-clause-kept
returns-then-turns-handle-clause-kept c = keeps c.args.seat.now.inner.me.0 c.load-found.new.seat.me.0 (grows_look _ _ _ _ c.load-found.ensures.2)

pub returns-in-Ok-clause-kept : goal.returns-in-Ok-clause-kept
returns-in-Ok-clause-kept c = keeps_on _ _ _ (keeps c.args.seat.now.inner.me.0 c.load-found.new.seat.me.0 (grows_look _ _ _ _ c.load-found.ensures.2)) c.in-Ok.ensures.kept

pub returns-in-Poison-clause-kept : goal.returns-in-Poison-clause-kept
returns-in-Poison-clause-kept c = keeps_on _ _ _ (keeps c.args.seat.now.inner.me.0 c.load-found.new.seat.me.0 (grows_look _ _ _ _ c.load-found.ensures.2)) c.in-Poison.ensures.kept

pub returns-then-turns-handle-clause-past : goal.returns-then-turns-handle-clause-past
returns-then-turns-handle-clause-past c = λ some past _. let a = (finds _ _ c.args.seat.now.inner.me _ c.args.handle c.args.self.now.shape c.load-found.ensures.2 c.requires.at.1 some c.requires.seen c.word_of-at.ensures.same).past_ended past in omega (arith, c.turns.ensures, c.if-turns-handle.true)

pub returns-then-turns-handle-clause-emptied : goal.returns-then-turns-handle-clause-emptied
returns-then-turns-handle-clause-emptied c = λ some emptied _. let a = (finds _ _ c.args.seat.now.inner.me _ c.args.handle c.args.self.now.shape c.load-found.ensures.2 c.requires.at.1 some c.requires.seen c.word_of-at.ensures.same).emptied_ended emptied in omega (arith, c.turns.ensures, c.if-turns-handle.true)
