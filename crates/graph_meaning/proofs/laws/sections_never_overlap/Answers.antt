use Rattle.graph_meaning.proofs.SectionLaws.{sections_apart}
use Rattle.graph_meaning.proofs.laws.sections_never_overlap.Goals as goal

pub returns : goal.returns
returns c = sections_apart
