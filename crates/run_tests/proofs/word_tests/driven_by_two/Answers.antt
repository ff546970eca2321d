use Rattle.run_words.proofs.Public.{all_still, rejoined_both}
use Rattle.run_tests.proofs.word_tests.driven_by_two.Goals as goal

pub closed-requires-clause-all : goal.closed-requires-clause-all
closed-requires-clause-all t c =
    all_still c.in_ok-words.seat c.join.new.seat c.in_ok-words.ensures.all
    (rejoined_both c.in_ok-words.seat c.split-other.new.seat c.split-other.result c.drive_both-first.result.0 c.drive_both-first.result.1 c.join.new.seat
    c.split-other.ensures.numbers c.drive_both-first.ensures.back.0 c.drive_both-first.ensures.back.1 c.join.ensures.numbers)
