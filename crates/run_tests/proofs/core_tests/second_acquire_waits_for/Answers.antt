use Rattle.std.proofs.Common.{sym}
use Rattle.run_tests.proofs.core_tests.second_acquire_waits_for.Goals as goal

pub put_back-requires : goal.put_back-requires
put_back-requires c = c.perform-finished.ensures.finished c.attempt.new.self c.is_sound.ensures.sound (sym c.graph-2.ensures) c.in-Taken.ensures.answer.1.work
