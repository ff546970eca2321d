use Rattle.std.proofs.Common.{◌≡◌}
use Rattle.run_words.specs.Words.{IsAt, numbers_of, splits_of}
use Rattle.free_engine.proofs.shared_words.WordsSharedWords.issue_next.Given as goal

abbrev pub invariant-loop-turn : goal.invariant-loop-turn
invariant-loop-turn l = record {
  at : IsAt l.self l.seat;
  numbers : (numbers_of l.seat ≡ numbers_of l.initial.seat) × (splits_of l.seat ≡ splits_of l.initial.seat);
}
