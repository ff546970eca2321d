use Rattle.std.proofs.Common.{rules, ◌≡◌, subst}
use Rattle.std.specs.Arc.{arc_value}
use Rattle.run_core.specs.Core.{IsCore}
use Rattle.run_core.specs.Resting.{core_by}
use Rattle.run_handles.proofs.Moves.{keeps_between}
use Rattle.run_handles.proofs.run.Run.attempt.Goals as goal

pub returns-clause-works : goal.returns-clause-works
returns-clause-works c = λ k.
    let woken : c.wake-awake.result ≡ c.args.self = search rules in
    let rested : c.attempt-answer.new.self ≡ core_by (arc_value c.self.inside.graph).graph c.rest-core.result = search rules in
    keeps_between c.args.self c.wake-awake.result c.attempt-answer.new.self _ k woken rested (c.attempt-answer.ensures.works k)

pub returns-clause-sound : goal.returns-clause-sound
returns-clause-sound c =
    let rested : c.attempt-answer.new.self ≡ core_by (arc_value c.self.inside.graph).graph c.rest-core.result = search rules in
    subst IsCore rested c.is_sound.ensures.sound
