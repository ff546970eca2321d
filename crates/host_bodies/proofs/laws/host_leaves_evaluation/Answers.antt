use Rattle.host_bodies.proofs.Ending as ending
use Rattle.host_bodies.proofs.laws.host_leaves_evaluation.Goals as goal

pub returns : goal.returns
returns c = ending.host_leaves_evaluation c.host_agrees.ensures c.order_lists_ended_for_all_effects.ensures
