use Rattle.run_words.proofs.Public.{rejoined_same, rejoined_further}
use Rattle.free_engine.proofs.workers.go_on.Goals as goal

pub returns-in_default-clause-back : goal.returns-in_default-clause-back
returns-in_default-clause-back t c = rejoined_same c.args.seat.now c.next_line.new.seat c.next_line.ensures.numbers

pub returns-clause-back : goal.returns-clause-back
returns-clause-back t c = rejoined_further c.args.seat.now c.next_line.new.seat c.try_line.new.seat (rejoined_same c.args.seat.now c.next_line.new.seat c.next_line.ensures.numbers) c.try_line.ensures.back
