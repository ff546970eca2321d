use Rattle.graph_meaning.proofs.LaterFormats.{upgrade_keeps_meaning}
use Rattle.graph_meaning.proofs.laws.upgrade_keeps_meaning.Goals as goal

pub returns : goal.returns
returns c = upgrade_keeps_meaning
