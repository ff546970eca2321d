use Rattle.graph_words.proofs.IntervalWords.{one_alone}
use Rattle.graph_words.proofs.intervals.one_interval.Goals as goal

pub returns-in-None : goal.returns-in-None
returns-in-None c = one_alone c.args.word.now c.interval.result c.interval.ensures c.in-None.ensures
