use Rattle.run_words.proofs.Public.{rejoined_at_first, rejoined_further, rejoined_same}
use Rattle.run_tests.proofs.word_tests.issue_all.Goals as goal

pub loop-turn-init : goal.loop-turn-init
loop-turn-init c = record { at = c.requires.at; back = rejoined_at_first c.args.seat.now }

pub loop-turn-preserved : goal.loop-turn-preserved
loop-turn-preserved c = record {
  at = c.issue.ensures.at;
  back = rejoined_further c.args.seat.now c.loop-turn.seat c.issue.new.seat c.loop-turn.invariant.back (rejoined_same c.loop-turn.seat c.issue.new.seat c.issue.ensures.numbers);
}
