use Rattle.std.proofs.Common.{rules, ◌≡◌, subst}
use Rattle.std.specs.Prelude.{◌↔◌}
use Rattle.run_core.specs.Core.{CoreValue}
use Rattle.run_core.specs.Finishing.{NothingOut}
use Rattle.run_handles.proofs.run.Run.count.Goals as goal

pub returns-clause-nothing_out : goal.returns-clause-nothing_out
returns-clause-nothing_out c =
    let woken : c.wake-awake.result ≡ c.args.self = search rules in
    subst (λ (v : CoreValue). (c.counted-lines.result.out ≡ 0) ↔ NothingOut v) woken c.counted-lines.ensures.nothing_out
