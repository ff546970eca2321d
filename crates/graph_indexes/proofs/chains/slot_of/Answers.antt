use Rattle.std.proofs.Common.{rules}
use Rattle.graph_indexes.specs.Names.{slot_of}
use Rattle.graph_indexes.proofs.chains.slot_of.Goals as goal

pub returns : goal.returns
unfolding slot_of
returns c = search rules
