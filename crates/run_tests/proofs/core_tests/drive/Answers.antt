use Rattle.run_tests.proofs.Driving.{same_at_first, same_further}
use Rattle.run_tests.proofs.core_tests.drive.Goals as goal

pub loop-turn-init : goal.loop-turn-init
loop-turn-init c = same_at_first c.args.core.now

pub loop-turn-preserved : goal.loop-turn-preserved
loop-turn-preserved c = same_further _ _ _ (same_further _ _ _ c.loop-turn.invariant c.issue_all.ensures) (same_further _ _ _ c.take_from.ensures.out c.wake_all.ensures)
