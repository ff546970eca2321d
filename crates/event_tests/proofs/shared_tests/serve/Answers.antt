use Rattle.event_tests.proofs.Growing.{keeps_on}
use Rattle.event_tests.proofs.shared_tests.serve.Goals as goal

pub returns-clause-kept : goal.returns-clause-kept
returns-clause-kept c = keeps_on _ _ _ c.in_ok-pending.ensures.kept c.end-receipt.ensures.kept
