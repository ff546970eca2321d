use Rattle.std.proofs.Common.{◌+◌, ◌*◌, length}
use Rattle.free_engine.proofs.workers.+workers.Given as goal

abbrev pub decreases-run_workers : goal.decreases-run_workers
decreases-run_workers t l = 3 * length l.hints.now

abbrev pub decreases-run_both : goal.decreases-run_both
decreases-run_both t l = 3 * length l.rest.now + 2

abbrev pub decreases-run_both-join+arg3 : goal.decreases-run_both-join+arg3
decreases-run_both-join+arg3 t l = 3 * length l.rest.now + 1
