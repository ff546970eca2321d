use Rattle.graph_meaning.proofs.GraphLaws as laws
use Rattle.graph_meaning.proofs.laws.changes_within_accesses.Goals as goal

pub returns : goal.returns
returns c = laws.changes_within_accesses
