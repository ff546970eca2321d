use Rattle.host_bodies.proofs.Ending as ending
use Rattle.host_bodies.proofs.laws.host_goes_on.Goals as goal

pub returns : goal.returns
returns c = ending.host_goes_on c.waits_where_reached_for_all_effects.ensures c.ready_where_unreached.ensures
