use Rattle.run_words.proofs.Public.{all_at_first}
use Rattle.embedded_run.proofs.running.run_checked.Goals as goal

pub run_free-requires-clause-all : goal.run_free-requires-clause-all
run_free-requires-clause-all t c = λ ks within. all_at_first c.in_ok-words.seat c.in_ok-words.ensures.first
