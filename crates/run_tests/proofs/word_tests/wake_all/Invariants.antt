use Rattle.std.proofs.Common.{◌≡◌}
use Rattle.run_words.specs.Words.{IsAt, numbers_of, splits_of}
use Rattle.run_words.specs.Works.{IsWokenOf}
use Rattle.run_tests.proofs.word_tests.wake_all.Given as goal

abbrev pub invariant-loop-turn : goal.invariant-loop-turn
invariant-loop-turn l = record {
  at : IsAt l.words l.seat;
  woken : IsWokenOf l.words l.woken;
  numbers : (numbers_of l.seat ≡ numbers_of l.initial.seat) × (splits_of l.seat ≡ splits_of l.initial.seat);
}
