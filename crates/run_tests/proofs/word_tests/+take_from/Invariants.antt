use Rattle.std.proofs.Common.{◌-◌, length}
use Rattle.run_words.specs.Words.{graph_of}
use Rattle.run_tests.proofs.word_tests.+take_from.Given as goal

abbrev pub decreases-take_from : goal.decreases-take_from
decreases-take_from l = length (graph_of l.words.now).lines - l.place
