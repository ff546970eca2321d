use Rattle.std.proofs.Common.{Option, Some, None, List, sym, subst}
use Rattle.std.specs.Prelude.{IfNone, Contains}
use Rattle.event_table.specs.declared.handle.Handle.{Handle}
use Rattle.event_table.specs.declared.handle.Fate.{Fate}
use Rattle.shared_events.specs.declared.view.View.{View}
use Rattle.shared_events.specs.Views.{IsFull}
use Rattle.shared_events.proofs.Scout.{held_taken}
use Rattle.shared_events.proofs.events.Events.create.Goals as goal

none_of : {X : Type 0} (r : Option X) (P Q : Type 0) → IfNone r P → (P → Q) → IfNone r Q
none_of None P Q p f = f p
none_of (Some x) P Q p f = tt

pub returns-clause-full : goal.returns-clause-full
returns-clause-full c = let shape = c.args.self.now.shape in let after = c.create_informed.new.seat.inner.me.0 in
    subst (λ (l : List Handle). IfNone c.create_informed.result (IsFull shape l c.args.seat.now.inner.me.0 after)) c.inform.ensures.made
    (subst (λ (v : View). IfNone c.create_informed.result (IsFull shape c.inform.new.maker.inner.me.0.made v after)) c.split-told.ensures.same c.create_informed.ensures.full)

pub returns-clause-taken : goal.returns-clause-taken
returns-clause-taken c = none_of c.create_informed.result _ _ c.create_informed.ensures.held
    (held_taken c.args.self.now.shape c.args.maker.now.inner.me.0.made c.inform.new.maker.inner.me.0.made c.inform.new.maker.inner.me.0 c.args.seat.now.inner.me.0 c.inform.ensures.made
    (λ h f k. c.inform.ensures.past h f (record { known = subst (λ l. Contains {X = Handle × Fate} l (h, f)) (sym c.split-told.ensures.copied.1) k.known })))
