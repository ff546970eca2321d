use Rattle.graph_meaning.proofs.LaterFormats.{later_formats_keep_meaning}
use Rattle.graph_meaning.proofs.laws.later_formats_keep_meaning.Goals as goal

pub returns : goal.returns
returns c = later_formats_keep_meaning
