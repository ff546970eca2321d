use Rattle.std.proofs.Common.{◌≡◌}
use Rattle.run_words.specs.Words.{IsAt, numbers_of, splits_of}
use Rattle.free_engine.proofs.search.is_issued_up_to.Given as goal

abbrev pub invariant-loop-turn : goal.invariant-loop-turn
invariant-loop-turn t l = record {
  at : IsAt (t.W.SharedWords.words l.words) l.seat;
  numbers : (numbers_of l.seat ≡ numbers_of l.initial.seat) × (splits_of l.seat ≡ splits_of l.initial.seat);
}
