use Rattle.flow_order.proofs.Whole as whole
use Rattle.flow_order.proofs.laws.means_by_sources.Goals as goal

pub returns : goal.returns
returns c = whole.means_by_sources c.points_are_listed.ensures
