use Rattle.std.proofs.Common.{◌≡◌, ◌+◌, length}
use Rattle.basics.specs.Words.{contents}
use Rattle.graph_terms.specs.Table.{kind_words}
use Rattle.graph_indexes.specs.Counts.{words_size}
use Rattle.graph_model.proofs.graph.sizes.fixed_size.Given as goal

abbrev pub invariant-loop-rest : goal.invariant-loop-rest
invariant-loop-rest l = l.size + words_size (contents l.rest) ≡ words_size (kind_words l.fn.kind)

abbrev pub decreases-loop-rest : goal.decreases-loop-rest
decreases-loop-rest l = length l.rest
