use Rattle.run_words.proofs.Public.{rejoined_back}
use Rattle.run_tests.proofs.word_tests.try_line.Goals as goal

pub returns-in-Taken-clause-work : goal.returns-in-Taken-clause-work
returns-in-Taken-clause-work c = c.in-Taken.ensures.answer.0

pub returns-in-Taken-clause-out : goal.returns-in-Taken-clause-out
returns-in-Taken-clause-out c = c.in-Taken.ensures.answer.2

pub returns-in-Over-clause-none : goal.returns-in-Over-clause-none
returns-in-Over-clause-none c = rejoined_back c.args.seat.now c.attempt.new.seat c.in-Over.ensures.answer.4

pub returns-in-Never-clause-none : goal.returns-in-Never-clause-none
returns-in-Never-clause-none c = rejoined_back c.args.seat.now c.attempt.new.seat c.in-Never.ensures.answer.1

pub returns-in-NotYet-clause-none : goal.returns-in-NotYet-clause-none
returns-in-NotYet-clause-none c = rejoined_back c.args.seat.now c.attempt.new.seat c.in-NotYet.ensures.answer.1.2

pub returns-in-Busy-clause-none : goal.returns-in-Busy-clause-none
returns-in-Busy-clause-none c = rejoined_back c.args.seat.now c.attempt.new.seat c.in-Busy.ensures.answer.1.3
