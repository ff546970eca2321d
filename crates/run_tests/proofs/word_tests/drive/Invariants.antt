use Rattle.run_words.specs.Words.{IsAt}
use Rattle.run_words.specs.Rejoined.{Rejoined}
use Rattle.run_tests.proofs.word_tests.drive.Given as goal

abbrev pub invariant-loop-turn : goal.invariant-loop-turn
invariant-loop-turn l = record {
  at : IsAt l.words l.seat;
  back : Rejoined l.initial.seat l.seat;
}
