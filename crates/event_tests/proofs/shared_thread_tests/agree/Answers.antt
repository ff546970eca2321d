use Rattle.event_tests.proofs.Growing.{keeps_on}
use Rattle.event_tests.proofs.shared_thread_tests.agree.Goals as goal

pub look-requires-clause-seen : goal.look-requires-clause-seen
look-requires-clause-seen c = c.loop-handle.invariant.kept.0 _ (c.requires.seen c.loop-handle.handle-index _ c.loop-handle-test.true)

pub returns-then-ne-clause-kept : goal.returns-then-ne-clause-kept
returns-then-ne-clause-kept c = keeps_on _ _ _ c.loop-handle.invariant.kept c.look.ensures.kept

pub loop-handle-preserved : goal.loop-handle-preserved
loop-handle-preserved c = record { at = c.look.ensures.at; kept = keeps_on _ _ _ c.loop-handle.invariant.kept c.look.ensures.kept }
