use Rattle.event_tests.proofs.Growing.{keeps_on}
use Rattle.event_tests.proofs.shared_tests.answers.Goals as goal

pub look-requires-clause-seen : goal.look-requires-clause-seen
look-requires-clause-seen c = c.loop-handle.invariant.kept.0 _ (c.requires.seen c.loop-handle.handle-index _ c.loop-handle-test.true)

pub loop-handle-preserved : goal.loop-handle-preserved
loop-handle-preserved c = record { at = c.look.ensures.at; kept = keeps_on _ _ _ c.loop-handle.invariant.kept c.look.ensures.kept }
