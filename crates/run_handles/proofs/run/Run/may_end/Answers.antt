use Rattle.std.proofs.Common.{rules, ◌≡◌, subst}
use Rattle.run_core.specs.Core.{CoreValue}
use Rattle.run_core.specs.Finishing.{NothingOut}
use Rattle.run_handles.specs.Ends.{LeavesCall, LeavesNoCall}
use Rattle.run_handles.proofs.run.Run.may_end.Goals as goal

pub returns-clause-may : goal.returns-clause-may
returns-clause-may c = λ done.
    let woken : c.wake-awake.result ≡ c.args.self = search rules in
    subst (λ (v : CoreValue). NothingOut v × LeavesNoCall v) woken (c.end_misuse-status.ensures.may done)

pub returns-clause-left : goal.returns-clause-left
returns-clause-left c = λ left.
    let woken : c.wake-awake.result ≡ c.args.self = search rules in
    subst LeavesCall woken (c.end_misuse-status.ensures.left left)
