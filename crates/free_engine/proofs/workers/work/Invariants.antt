use Rattle.run_words.specs.Rejoined.{Rejoined}
use Rattle.run_words.specs.Words.{IsAt}
use Rattle.free_engine.proofs.workers.work.Given as goal

abbrev pub invariant-loop-turn : goal.invariant-loop-turn
invariant-loop-turn t l = record {
  at : IsAt (t.W.SharedWords.words l.words) l.own;
  back : Rejoined l.fn.seat l.own;
}
