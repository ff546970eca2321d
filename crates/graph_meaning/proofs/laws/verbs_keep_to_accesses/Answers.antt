use Rattle.graph_meaning.proofs.GraphLaws as laws
use Rattle.graph_meaning.proofs.laws.verbs_keep_to_accesses.Goals as goal

pub returns : goal.returns
returns c = laws.verbs_keep_to_accesses
