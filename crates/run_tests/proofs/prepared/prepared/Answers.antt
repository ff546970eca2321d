use Rattle.run_words.proofs.Public.{all_at_first}
use Rattle.run_tests.proofs.prepared.prepared.Goals as goal

pub returns-clause-all : goal.returns-clause-all
returns-clause-all c = all_at_first _ c.in_ok-prepare.ensures.first
