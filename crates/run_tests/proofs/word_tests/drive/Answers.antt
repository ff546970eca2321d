use Rattle.run_words.proofs.Public.{rejoined_at_first, rejoined_further}
use Rattle.run_tests.proofs.word_tests.drive.Goals as goal

pub loop-turn-init : goal.loop-turn-init
loop-turn-init c = record { at = c.requires.at; back = rejoined_at_first c.args.seat.now }

pub loop-turn-preserved : goal.loop-turn-preserved
loop-turn-preserved c =
    let issued = rejoined_further c.args.seat.now c.loop-turn.seat c.issue_all.new.seat c.loop-turn.invariant.back c.issue_all.ensures.back in
    record {
      at = c.take_from.ensures.at;
      back = rejoined_further c.args.seat.now c.issue_all.new.seat c.take_from.new.seat issued c.take_from.ensures.back;
    }
