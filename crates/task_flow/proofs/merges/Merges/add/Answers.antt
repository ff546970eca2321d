use Rattle.std.proofs.Common.{refl, ◌∙◌}
use Rattle.task_flow.proofs.MergeSteps.{added_to}
use Rattle.task_flow.proofs.merges.Merges.add.Goals as goal

pub returns : goal.returns
returns c =
    added_to (λ k. k.items) _ c.self.inside.lines.entries c.insert.new.self.entries c.in-Ok.key c.args.line c.args.events.now c.args.self.now c.self.view_is (c.in-Ok.ensures.items ∙ (c.as_slice.ensures.value ∙ c.events.view_is)) (λ k. refl) c.in-Ok-insert.ensures.entries c.requires
