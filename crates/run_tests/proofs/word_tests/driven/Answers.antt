use Rattle.run_words.proofs.Public.{all_still}
use Rattle.run_tests.proofs.word_tests.driven.Goals as goal

pub closed-requires-clause-all : goal.closed-requires-clause-all
closed-requires-clause-all c = all_still c.in_ok-words.seat c.drive-ended.new.seat c.in_ok-words.ensures.all c.drive-ended.ensures.back
