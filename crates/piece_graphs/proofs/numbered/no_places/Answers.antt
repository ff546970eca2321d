use Rattle.piece_graphs.proofs.Placing.{list_put}
use Rattle.piece_graphs.proofs.numbered.no_places.Goals as goal

pub loop-column-preserved : goal.loop-column-preserved
loop-column-preserved c = list_put c.loop-column._column c.loop-column.places.items c.push.new.items.items c.new.result c.loop-column.invariant c.new.ensures.items c.in_ok-push.ensures.ok
