use Rattle.graph_meaning.proofs.MergedEvents as merged
use Rattle.graph_meaning.proofs.laws.on_is_as_a_merge.Goals as goal

pub returns : goal.returns
returns c = merged.on_is_as_a_merge
