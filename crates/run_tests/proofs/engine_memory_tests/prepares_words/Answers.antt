use Rattle.run_words.proofs.Public.{all_at_first}
use Rattle.run_tests.proofs.engine_memory_tests.prepares_words.Goals as goal

pub run_free-outcome-requires-clause-all : goal.run_free-outcome-requires-clause-all
run_free-outcome-requires-clause-all g c κs within = all_at_first c.in-Ok.seat c.in-Ok.ensures.first
