use Rattle.std.proofs.Common.{◌-◌, ◌%◌, arith}
use Rattle.event_table.proofs.MapAnswers.{end_tells}
use Rattle.event_table.proofs.TableEnd.{free_fits, handle_inside, low_half, chain_fits, end_done}
use Rattle.event_table.proofs.table.EventTable.end.Goals as goal

pub set_fate-requires : goal.set_fate-requires
set_fate-requires c = let s = c.self.inside in let k = c.self.invariant in
    record { sized = k.sized; within = handle_inside s.shape s.words.items s.free.items s.caught.items c.args.handle c.args.fate k.sized k.kept c.args.self.now c.self.view_is c.requires.pending; room = k.room_words }

pub overflow_sub-low : goal.overflow_sub-low
overflow_sub-low c = let s = c.self.inside in let k = c.self.invariant in
    (low_half s.shape s.words.items s.free.items s.caught.items c.args.handle c.args.fate k.sized k.kept c.args.self.now c.self.view_is c.requires.pending c.set_fate.new.words.items c.index.result.now c.set_fate.ensures.marked c.index.ensures).0

pub catch-requires-clause-room : goal.catch-requires-clause-room
catch-requires-clause-room c = λ l. let s = c.self.inside in let k = c.self.invariant in
    let low = low_half s.shape s.words.items s.free.items s.caught.items c.args.handle c.args.fate k.sized k.kept c.args.self.now c.self.view_is c.requires.pending c.set_fate.new.words.items c.index.result.now c.set_fate.ensures.marked c.index.ensures in
    omega (arith, s.caught.ok.0, k.room_caught, chain_fits s.shape s.words.items s.free.items s.caught.items c.args.handle c.args.fate k.sized k.kept c.args.self.now c.self.view_is c.requires.pending (c.index.result.now % 4294967296 - 1) low.1 l)

pub release-requires : goal.release-requires
release-requires c = let s = c.self.inside in let k = c.self.invariant in
    record { room = omega (arith, s.free.ok.0, k.room_free, free_fits s.shape s.words.items s.free.items s.caught.items c.args.handle c.args.fate k.sized k.kept c.args.self.now c.self.view_is c.requires.pending) }

pub invariant_of-self : goal.invariant_of-self
invariant_of-self c = let s = c.self.inside in let k = c.self.invariant in
    let low = low_half s.shape s.words.items s.free.items s.caught.items c.args.handle c.args.fate k.sized k.kept c.args.self.now c.self.view_is c.requires.pending c.set_fate.new.words.items c.index.result.now c.set_fate.ensures.marked c.index.ensures in
    let d = end_done s.shape s.words.items s.free.items s.caught.items c.args.handle c.args.fate k.sized k.kept c.args.self.now c.self.view_is c.requires.pending c.release.new.free.items c.catch.new.caught.items c.set_fate.new.words.items (c.index.result.now % 4294967296 - 1) c.next_word.result
    c.set_fate.ensures.marked c.next_word.ensures low.1 c.release.ensures.items c.catch.ensures.items in
    record { sized = k.sized; kept = d.kept; room_words = omega (arith, k.room_words, c.set_fate.ensures.room); room_free = omega (arith, k.room_free, c.release.ensures.room); room_caught = omega (arith, k.room_caught, c.catch.ensures.room) }

pub returns : goal.returns
returns c = let s = c.self.inside in let k = c.self.invariant in
    let low = low_half s.shape s.words.items s.free.items s.caught.items c.args.handle c.args.fate k.sized k.kept c.args.self.now c.self.view_is c.requires.pending c.set_fate.new.words.items c.index.result.now c.set_fate.ensures.marked c.index.ensures in
    let d = end_done s.shape s.words.items s.free.items s.caught.items c.args.handle c.args.fate k.sized k.kept c.args.self.now c.self.view_is c.requires.pending c.release.new.free.items c.catch.new.caught.items c.set_fate.new.words.items (c.index.result.now % 4294967296 - 1) c.next_word.result
    c.set_fate.ensures.marked c.next_word.ensures low.1 c.release.ensures.items c.catch.ensures.items in
    let t = end_tells c.args.self.now _ c.args.handle c.args.fate d.map d.now in
    record { map = d.map; ended = t.ended; others = t.others; created = t.keeps; free = t.free }
