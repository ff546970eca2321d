-- The laws that the proofs of other crates cite, as specs/ states them.
use Rattle.host_bodies.specs.Laws.{StepsChangeOwn}
use Rattle.host_bodies.proofs.Runs as runs

pub steps_change_own : StepsChangeOwn
steps_change_own = runs.steps_change_own
