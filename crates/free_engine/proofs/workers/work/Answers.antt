use Rattle.run_words.proofs.Public.{rejoined_further}
use Rattle.free_engine.proofs.workers.work.Goals as goal

pub returns-then-not-go_on-clause-back : goal.returns-then-not-go_on-clause-back
returns-then-not-go_on-clause-back t c = rejoined_further c.args.seat c.loop-turn.own c.go_on.new.seat c.loop-turn.invariant.back c.go_on.ensures.back

pub loop-turn-preserved : goal.loop-turn-preserved
loop-turn-preserved t c = record {
  at = c.go_on.ensures.at;
  back = rejoined_further c.args.seat c.loop-turn.own c.go_on.new.seat c.loop-turn.invariant.back c.go_on.ensures.back;
}
