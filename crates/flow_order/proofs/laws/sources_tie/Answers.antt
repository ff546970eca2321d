use Rattle.flow_order.proofs.SourceFacts as sources
use Rattle.flow_order.proofs.laws.sources_tie.Goals as goal

pub returns : goal.returns
returns c = sources.sources_tie
