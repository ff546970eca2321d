use Rattle.std.proofs.Common.{arith}
use Rattle.event_table.proofs.TableGive.{give_inside, give_low, give_done}
use Rattle.event_table.proofs.table.EventTable.next_caught.Goals as goal

pub index-next-requires : goal.index-next-requires
index-next-requires c = let s = c.self.inside in let k = c.self.invariant in
    omega (arith, s.words.ok.0, give_inside s.shape s.words.items s.free.items c.pop.new.self.items s.caught.items c.in-Some.chain c.args.self.now k.sized k.kept c.self.view_is c.in-Some.ensures.items)

pub catch-requires-clause-number : goal.catch-requires-clause-number
catch-requires-clause-number c = let s = c.self.inside in let k = c.self.invariant in
    give_low s.shape s.words.items s.free.items c.pop.new.self.items s.caught.items c.in-Some.chain c.args.self.now k.sized k.kept c.self.view_is c.in-Some.ensures.items c.index-next.result.now c.index-next.ensures

pub invariant_of-self-2 : goal.invariant_of-self-2
invariant_of-self-2 c = let s = c.self.inside in let k = c.self.invariant in
    let d = give_done s.shape s.words.items s.free.items c.pop.new.self.items s.caught.items c.in-Some.chain c.args.self.now k.sized k.kept c.self.view_is c.in-Some.ensures.items c.catch.new.caught.items c.index-next.result.now c.index-next.ensures c.catch.ensures.items in
    record { sized = k.sized; kept = d.kept; room_words = k.room_words; room_free = k.room_free; room_caught = omega (arith, k.room_caught, c.in-Some.ensures.capacity, c.catch.ensures.room) }

pub returns : goal.returns
returns c = let s = c.self.inside in let k = c.self.invariant in
    let d = give_done s.shape s.words.items s.free.items c.pop.new.self.items s.caught.items c.in-Some.chain c.args.self.now k.sized k.kept c.self.view_is c.in-Some.ensures.items c.catch.new.caught.items c.index-next.result.now c.index-next.ensures c.catch.ensures.items in
    record { some = (d.gives, d.is_free); none = tt; answers = d.answers; created = d.keeps; free = d.keeps_free }
