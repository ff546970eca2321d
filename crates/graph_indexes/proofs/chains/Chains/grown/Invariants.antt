use Rattle.std.proofs.Common.{take}
use Rattle.graph_indexes.proofs.ChainLaws.{AreCopied}
use Rattle.graph_indexes.proofs.chains.Chains.grown.Given as goal

abbrev pub invariant-loop-entry : goal.invariant-loop-entry
invariant-loop-entry l = AreCopied l.self l.chains (take l.entry-index l.entry-items)
