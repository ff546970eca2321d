use Rattle.run_words.proofs.Public.{rejoined_further, rejoined_at_first, rejoined_after}
use Rattle.run_tests.proofs.word_tests.+take_from.Goals as goal

pub returns-then-place-lines-clause-back : goal.returns-then-place-lines-clause-back
returns-then-place-lines-clause-back t c = rejoined_at_first c.args.seat.now

pub returns-in_default-clause-back : goal.returns-in_default-clause-back
returns-in_default-clause-back t c = rejoined_further c.args.seat.now c.try_line.new.seat c.take_from.new.seat c.in_default.ensures.none c.take_from.ensures.back

pub returns-clause-back : goal.returns-clause-back
returns-clause-back t c =
    rejoined_after c.args.seat.now c.try_line.new.seat c.take_from-others.new.seat c.end_work.new.seat c.in-Some.work c.in-Some.ensures.out c.take_from-others.ensures.back c.end_work.ensures.numbers
