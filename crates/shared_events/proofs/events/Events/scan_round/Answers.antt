use Rattle.std.proofs.Common.{◌∙◌, Option, Some, None, subst, sym, List, inr, arith}
use Rattle.std.specs.Prelude.{IfNone, IfSome, Contains}
use Rattle.event_table.specs.declared.handle.Handle.{Handle}
use Rattle.shared_events.specs.Views.{Scanned, AreHeld}
use Rattle.shared_events.proofs.Scout.{full_round, has_served, held_round}
use Rattle.shared_events.proofs.events.Events.scan_round.Goals as goal

none_of : {X : Type 0} (r : Option X) (P Q : Type 0) → IfNone r P → (P → Q) → IfNone r Q
none_of None P Q p f = f p
none_of (Some x) P Q p f = tt

pub returns-in_default-clause-full : goal.returns-in_default-clause-full
returns-in_default-clause-full c = none_of c.scan-in_default.result _ _ c.scan-in_default.ensures.none
    (λ low. full_round c.args.self.now.shape c.args.maker.now.inner.me.0.made c.args.maker.now.inner.me.0 c.scan.new.maker.inner.me.0 c.scan-in_default.new.maker.inner.me.0 c.first_to_scan-from.result c.in_default.ensures.none
    (subst (λ (l : List Handle). Scanned c.args.self.now.shape l c.scan.new.maker.inner.me.0 c.scan-in_default.new.maker.inner.me.0 0 c.first_to_scan-from.result) c.scan.ensures.made low))

some_of : {X : Type 0} (r : Option X) (P : X → Type 0) → ((x : X) → P x) → IfSome r P
some_of None P f = tt
some_of (Some x) P f = f x

pub returns-in_default-clause-next : goal.returns-in_default-clause-next
returns-in_default-clause-next c =
    let made = c.scan-in_default.ensures.made ∙ c.scan.ensures.made in (
      c.scan-in_default.ensures.next.0 ∙ c.scan.ensures.next.0,
      some_of c.scan-in_default.result _ (λ r near.
          let t = has_served c.args.self.now.shape c.args.maker.now.inner.me.0.made c.args.maker.now.inner.me.0 c.scan.new.maker.inner.me.0 c.first_to_scan-from.result c.args.self.now.shape.slots c.in_default.ensures.none c.args.maker.now.next (omega (arith, c.first_to_scan-from.ensures.next near)) near in
          inr (t.0, t.1, subst (λ l. Contains l t.0) (sym made) t.2)),
    )

pub returns-in_default-clause-held : goal.returns-in_default-clause-held
returns-in_default-clause-held c = none_of c.scan-in_default.result _ _ c.scan-in_default.ensures.held
    (λ low. held_round c.args.self.now.shape c.args.maker.now.inner.me.0.made c.args.maker.now.inner.me.0 c.scan.new.maker.inner.me.0 c.first_to_scan-from.result c.in_default.ensures.held
    (subst (λ (l : List Handle). AreHeld c.args.self.now.shape l c.scan.new.maker.inner.me.0 0 c.first_to_scan-from.result) c.scan.ensures.made low) c.scan.ensures.known)
