use Rattle.std.proofs.Common.{rules, ◌≡◌, ◌<◌, length, Some, subst}
use Rattle.run_handles.specs.Runs.{IfRun, TakenBy}
use Rattle.run_handles.specs.declared.token.Token.{Token}
use Rattle.run_handles.specs.declared.token.Token.TheVariants as token
use Rattle.run_handles.proofs.inside.take_in.Goals as goal

pub returns-in-Run-clause-taken : goal.returns-in-Run-clause-taken
returns-in-Run-clause-taken c = λ room.
    let a = c.attempt-run in
    let is : token.Run c.in-Run.run' ≡ c.args.token.now = search rules in
    subst (λ (t : Token). IfRun (Some t) (λ before. c.args.line < length before.graph.lines → TakenBy before a.result.0 c.args.line a.result.1 c.args.other.now a.new.other a.new.work.value)) is (a.ensures.taken room)
