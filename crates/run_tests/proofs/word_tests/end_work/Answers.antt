use Rattle.std.proofs.Common.{ap, ◌∙◌, ◌++◌}
use Rattle.run_words.specs.Words.{numbers_of, splits_of}
use Rattle.run_tests.proofs.word_tests.end_work.Goals as goal

pub perform-finished-requires : goal.perform-finished-requires
perform-finished-requires c = record { work = (c.args.words.now, c.requires.work, c.graph-graph.ensures) }

pub put_back-woken-requires-clause-finished : goal.put_back-woken-requires-clause-finished
put_back-woken-requires-clause-finished c = c.perform-finished.ensures.finished c.args.words.now c.requires.work c.graph-graph.ensures

pub returns-clause-numbers : goal.returns-clause-numbers
returns-clause-numbers c = (
  c.wake_all.ensures.numbers.0 ∙ (c.put_back-woken.ensures.numbers.0 ∙ ap (λ l. numbers_of c.args.seat.now ++ l) c.perform-finished.ensures.numbers.0),
  c.wake_all.ensures.numbers.1 ∙ (c.put_back-woken.ensures.numbers.1 ∙ ap (λ l. splits_of c.args.seat.now ++ l) c.perform-finished.ensures.numbers.1),
)
