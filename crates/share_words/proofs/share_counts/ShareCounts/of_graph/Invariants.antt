use Rattle.std.specs.Prelude.{[]}
use Rattle.share_words.specs.Counting.{AreCounted}
use Rattle.share_words.proofs.share_counts.ShareCounts.of_graph.Given as goal

abbrev pub invariant-loop-line : goal.invariant-loop-line
invariant-loop-line l = AreCounted l.graph l.line [] l.counts.items
