-- The laws that the proofs of other crates cite, as specs/ states them.
use Rattle.word_loads.specs.Laws.{AcquiresByVerb, FreeWithMore}
use Rattle.word_loads.proofs.Releasing as releasing
use Rattle.word_loads.proofs.TakingFacts as taking

pub line_acquires : AcquiresByVerb
line_acquires = releasing.line_acquires

pub free_in : FreeWithMore
free_in = taking.free_in
