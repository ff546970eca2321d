use Rattle.graph_meaning.proofs.LineFacts as laws
use Rattle.graph_meaning.proofs.line_laws.all_accesses_fit.Goals as goal

pub returns : goal.returns
returns c = laws.all_accesses_fit
