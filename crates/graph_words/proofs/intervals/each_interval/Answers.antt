use Rattle.std.proofs.Common.{Some, sym, ◌∙◌, ap}
use Rattle.graph_words.proofs.IntervalWords.{all_more, none_at}
use Rattle.graph_words.proofs.intervals.each_interval.Goals as goal

pub returns-in_default : goal.returns-in_default
returns-in_default c = none_at c.args.words.now c.loop-word.word-index _ c.loop-word-test.true (sym c.in_default.ensures)

pub loop-word-preserved : goal.loop-word-preserved
loop-word-preserved c = all_more c.args.words.now c.loop-word.word-index _ c.loop-word.pairs.items c.in-Some.pair c.loop-word-test.true c.loop-word.invariant (sym c.in-Some.ensures) ∙ ap Some (sym c.in-Ok.ensures.items)
