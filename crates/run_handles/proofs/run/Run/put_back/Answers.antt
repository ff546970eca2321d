use Rattle.std.proofs.Common.{rules, ◌≡◌}
use Rattle.std.specs.Arc.{arc_value}
use Rattle.run_core.specs.Resting.{core_by}
use Rattle.run_handles.proofs.Moves.{keeps_between}
use Rattle.run_handles.proofs.run.Run.put_back.Goals as goal

pub returns-clause-works : goal.returns-clause-works
returns-clause-works c = λ k other.
    let woken : c.wake-awake.result ≡ c.args.self = search rules in
    let rested : c.put_back.new.self ≡ core_by (arc_value c.self.inside.graph).graph c.rest-core.result = search rules in
    keeps_between c.args.self c.wake-awake.result c.put_back.new.self _ k woken rested (c.put_back.ensures.works k other)
