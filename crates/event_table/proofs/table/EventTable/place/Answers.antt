use Rattle.event_table.proofs.ChainSteps.{at_default}
use Rattle.event_table.proofs.MapAnswers.{place_tells}
use Rattle.event_table.proofs.TablePlace.{now_inside, place_done}
use Rattle.event_table.proofs.table.EventTable.place.Goals as goal

pub invariant_of-self : goal.invariant_of-self
invariant_of-self c = let s = c.self.inside in let k = c.self.invariant in
    let in' = now_inside s.shape s.words.items s.free.items s.caught.items c.args.handle c.args.self.now k.kept c.self.view_is c.requires.pending in
    let at = at_default s.words.items c.args.handle.slot c.index-word.result.now in'.1 c.index-word.ensures in
    let d = place_done s.shape s.words.items s.free.items s.caught.items c.args.handle c.args.waiter c.index-word.result.now k.sized k.kept c.args.self.now c.self.view_is c.requires.pending c.requires.waiter at in
    record { sized = k.sized; kept = d.kept; room_words = k.room_words; room_free = k.room_free; room_caught = k.room_caught }

pub returns : goal.returns
returns c = let s = c.self.inside in let k = c.self.invariant in
    let in' = now_inside s.shape s.words.items s.free.items s.caught.items c.args.handle c.args.self.now k.kept c.self.view_is c.requires.pending in
    let at = at_default s.words.items c.args.handle.slot c.index-word.result.now in'.1 c.index-word.ensures in
    let d = place_done s.shape s.words.items s.free.items s.caught.items c.args.handle c.args.waiter c.index-word.result.now k.sized k.kept c.args.self.now c.self.view_is c.requires.pending c.requires.waiter at in
    let t = place_tells c.args.self.now _ c.args.handle c.args.waiter d.map c.requires.pending in
    record { map = d.map; placed = t.placed; answers = t.answers; created = t.keeps; free = t.free }
