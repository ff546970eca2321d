use Rattle.graph_meaning.proofs.LineFacts as laws
use Rattle.graph_meaning.proofs.line_laws.columns_differ.Goals as goal

pub returns : goal.returns
returns c = laws.columns_differ
