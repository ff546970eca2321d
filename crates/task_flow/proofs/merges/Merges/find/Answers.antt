use Rattle.std.proofs.Common.{refl, ◌∙◌}
use Rattle.task_flow.proofs.MergeSteps.{found_in}
use Rattle.task_flow.proofs.merges.Merges.find.Goals as goal

pub returns : goal.returns
returns c = c.copied.ensures ∙ (c.get.ensures.value ∙ found_in (λ k. k.items) _ c.args.events.now c.as_slice.result.now c.self.inside.lines.entries c.args.self.now c.self.view_is (c.as_slice.ensures.value ∙ c.events.view_is) (λ k. refl))
