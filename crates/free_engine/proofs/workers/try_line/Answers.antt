use Rattle.run_words.proofs.Public.{rejoined_at_first, rejoined_after, rejoined_back}
use Rattle.free_engine.proofs.workers.try_line.Goals as goal

pub returns-in-Taken-clause-back : goal.returns-in-Taken-clause-back
returns-in-Taken-clause-back t c = rejoined_after c.args.seat.now c.attempt_line.new.seat c.attempt_line.new.seat c.end_work.new.seat c.in-Taken.work c.in-Taken.ensures.answer.2 (rejoined_at_first c.attempt_line.new.seat) c.end_work.ensures.numbers

pub returns-in-Over-clause-back : goal.returns-in-Over-clause-back
returns-in-Over-clause-back t c = rejoined_back c.args.seat.now c.attempt_line.new.seat c.in-Over.ensures.answer.4

pub returns-in-Never-clause-back : goal.returns-in-Never-clause-back
returns-in-Never-clause-back t c = rejoined_back c.args.seat.now c.attempt_line.new.seat c.in-Never.ensures.answer.1

pub returns-in-NotYet-clause-back : goal.returns-in-NotYet-clause-back
returns-in-NotYet-clause-back t c = rejoined_back c.args.seat.now c.attempt_line.new.seat c.in-NotYet.ensures.answer.1.2

pub returns-in-Busy-clause-back : goal.returns-in-Busy-clause-back
returns-in-Busy-clause-back t c = rejoined_back c.args.seat.now c.attempt_line.new.seat c.in-Busy.ensures.answer.1.3
