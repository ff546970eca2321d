-- The laws that the proofs of other crates cite, as specs/ states them.
use Rattle.run_core.specs.Works.{WorkIsOut}
use Rattle.run_core.proofs.FinishFacts as finish

pub work_out : WorkIsOut
work_out = finish.work_out
