use Rattle.run_core.proofs.FinishFacts.{goes_further, woken_goes}
use Rattle.run_core.proofs.run.Core.follow_woken.Goals as goal

pub loop-preserved : goal.loop-preserved
loop-preserved c =
    let now = c.loop.self in
    let woken = c.next_woken.new.self in
    goes_further c.args.self.now now c.run_line.new.self c.loop.invariant
    (goes_further now woken c.run_line.new.self (woken_goes now woken c.in-Some.line c.loop.invariant.nothing_out c.in-Some.ensures.some.0) c.run_line.ensures.goes_on)
