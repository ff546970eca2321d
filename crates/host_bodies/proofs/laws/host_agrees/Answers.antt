use Rattle.host_bodies.proofs.Ending as ending
use Rattle.host_bodies.proofs.laws.host_agrees.Goals as goal

pub returns : goal.returns
returns c = ending.host_agrees c.order_is_irrelevant_for_all_effects.ensures c.waits_where_reached_for_all_effects.ensures
