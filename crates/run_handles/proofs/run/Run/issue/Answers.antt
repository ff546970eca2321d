use Rattle.std.proofs.Common.{rules, ◌≡◌, subst}
use Rattle.std.specs.Arc.{arc_value}
use Rattle.run_core.specs.Core.{CoreValue}
use Rattle.run_core.specs.Resting.{core_by}
use Rattle.run_core.specs.Steps.{Issues}
use Rattle.run_handles.proofs.run.Run.issue.Goals as goal

pub returns-clause-did : goal.returns-clause-did
returns-clause-did c =
    let woken : c.wake-awake.result ≡ c.args.self = search rules in
    let rested : c.issue-answer.new.self ≡ core_by (arc_value c.self.inside.graph).graph c.rest-core.result = search rules in
    subst (λ (v : CoreValue). Issues v (core_by (arc_value c.self.inside.graph).graph c.rest-core.result) c.issue-answer.result) woken
    (subst (λ (v : CoreValue). Issues c.wake-awake.result v c.issue-answer.result) rested c.issue-answer.ensures.answer)
