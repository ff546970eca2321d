-- What `watch` tells, from what the load and `attach` tell.
use Rattle.std.proofs.Common.{◌≡◌, ℕ, ◌+◌, ◌*◌, [], ◌∷◌, ◌++◌, ap, ◌∙◌, inr, append_assoc}
use Rattle.event_table.specs.declared.handle.Handle.{Handle}
use Rattle.shared_events.specs.declared.view.View.{View}
use Rattle.shared_events.specs.declared.events.Events.{Events}
use Rattle.shared_events.specs.declared.tokens.Waiter.{Waiter}
use Rattle.shared_events.specs.declared.tokens.Watch.{Watch}
use Rattle.shared_events.specs.declared.tokens.Watch.TheVariants.{Placed, Over, Moved}
use Rattle.event_table.specs.Words.{turns_of}
use Rattle.shared_events.specs.Views.{Watched, Attached}

pub watched : (e : Events) (v u w : View) (h : Handle) (r : ℕ) (k : Waiter) (watch : Watch) → u.saw ≡ v.saw ++ (h.slot, r) ∷ [] → u.placed ≡ v.placed → turns_of r ≡ 2 * h.gen_ + 1 → Attached e u w h r k watch → Watched e v w h k watch
watched e v u w h r k Placed saw placed odd t = ((r, t.0 ∙ saw, odd), t.1 ∙ ap (λ l. l ++ (k.number, h) ∷ []) placed)
watched e v u w h r k (Over f l) saw placed odd t = (inr t.0, t.1 ∙ placed, t.2)
watched e v u w h r k (Moved l) saw placed odd t = ((r, t.0, t.1 ∙ (ap (λ x. x ++ (h.slot, t.0) ∷ []) saw ∙ append_assoc v.saw ((h.slot, r) ∷ []) ((h.slot, t.0) ∷ [])), odd, t.2, t.3), t.4 ∙ placed, t.5)
