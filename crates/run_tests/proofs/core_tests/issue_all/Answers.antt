use Rattle.run_tests.proofs.Driving.{same_at_first, same_further}
use Rattle.run_tests.proofs.core_tests.issue_all.Goals as goal

pub loop-turn-init : goal.loop-turn-init
loop-turn-init c = same_at_first c.args.core.now

pub loop-turn-preserved : goal.loop-turn-preserved
loop-turn-preserved c = same_further c.args.core.now c.loop-turn.core c.issue.new.self c.loop-turn.invariant c.issue.ensures.out
