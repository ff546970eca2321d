use Rattle.std.proofs.Common.{◌+◌, ◌*◌, ◌≤◌, length, refl, ◌∙◌, ap, subst, arith}
use Rattle.std.specs.Prelude.{Some, slice_set}
use Rattle.realm_timeline.specs.State.{state_of, undone}
use Rattle.realm_timeline.proofs.StepFacts.{starts_with}
use Rattle.realm_timeline.proofs.simulation.Simulation.start.Goals as goal

pub overflow_add-finish : goal.overflow_add-finish
overflow_add-finish c =
    let small : c.args.self.now.time + 68719476736 * undone c.args.self.now.done.items (length c.args.graph.now.lines) ≤ 68719476736 * length c.args.graph.now.lines = c.requires.simulation.small.time in
    omega arith

pub returns : goal.returns
returns c = starts_with c.args.graph.now (state_of c.args.self.now) _ c.args.place c.args.processor c.args.line c.remove_at.new.queues.items
    c.requires.listed c.requires.lowest c.requires.unheld c.remove_at.ensures.queues c.in_ok-add_holder.ensures.holder (c.in_ok-add_holder.ensures.count ∙ c.remove_at.ensures.count) (subst (λ x. x ≤ 68719476736) c.cost_of.ensures.cost c.cost_of.ensures.few) refl refl
    (ap (λ f. slice_set c.args.self.now.slots.items c.args.line (Some (record { processor = c.args.processor; start = c.args.self.now.time; finish = c.args.self.now.time + f }))) c.cost_of.ensures.cost)
    c.in_ok-push.ensures.ok refl refl refl
