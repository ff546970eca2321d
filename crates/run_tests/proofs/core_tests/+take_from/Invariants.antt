use Rattle.std.proofs.Common.{◌-◌, length}
use Rattle.run_tests.proofs.core_tests.+take_from.Given as goal

abbrev pub decreases-take_from : goal.decreases-take_from
decreases-take_from l = length l.core.now.graph.lines - l.place
