use Rattle.std.proofs.Common.{subst}
use Rattle.event_table.specs.EventMap.{IsEventMap}
use Rattle.event_table.specs.Kept.{map_in}
use Rattle.event_table.proofs.TableLook.{is_map}
use Rattle.event_table.proofs.table.EventTable.holds_a_map.Goals as goal

pub returns : goal.returns
returns c = let s = c.self.inside in let k = c.self.invariant in
    subst IsEventMap c.self.view_is (is_map s.shape s.words.items s.caught.items (map_in s.shape s.words.items s.caught.items) k.sized.2 k.kept.shown)
