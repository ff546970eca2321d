use Rattle.std.proofs.Common.{◌∙◌, subst, inl, inr}
use Rattle.std.specs.Prelude.{Contains}
use Rattle.std.proofs.lemmas.List.Elements.{Contains-push_cases}
use Rattle.event_tests.proofs.asking.handles_of.Goals as goal

pub loop-line-preserved : goal.loop-line-preserved
loop-line-preserved c = λ h d.
    let x = c.handle_of.ensures.line in
    elim (Contains-push_cases c.loop-line.handles.items c.handle_of.result h (subst (λ hs. Contains hs h) c.in_ok-push.ensures.items d)) [
      | inl old ↦ c.loop-line.invariant h old
      | inr new ↦ (x.0, x.2, x.3 ∙ new)
    ]
