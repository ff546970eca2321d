use Rattle.std.proofs.Common.{arith, get_or, ap, ◌∙◌}
use Rattle.event_table.proofs.TableLook.{opens}
use Rattle.event_table.proofs.table.EventTable.of_shape.Goals as goal

pub invariant_of-result : goal.invariant_of-result
invariant_of-result c = let f = c.free_slots.ensures in let w = c.lengthen.ensures in
    let o = opens c.args.shape c.lengthen.new.words.items c.as_slice.result.now c.free_slots.new.free.items c.in_ok-caught.caught.items c.requires.waiters (λ i. w.same i ∙ ap (λ l. get_or l i 0) c.in_ok-words.ensures.items) w.size.0 c.as_slice.ensures.value c.in_ok-caught.ensures.items f.free f.all f.once in
    record { sized = (c.requires.slots.0, c.requires.slots.1, c.requires.waiters, c.requires.gens); kept = o.kept; room_words = omega (arith, w.room, c.in_ok-words.ensures.exact); room_free = omega (arith, f.room, c.in_ok-free.ensures.exact); room_caught = omega (arith, c.in_ok-caught.ensures.exact) }

pub returns : goal.returns
returns c = let f = c.free_slots.ensures in let w = c.lengthen.ensures in
    let o = opens c.args.shape c.lengthen.new.words.items c.as_slice.result.now c.free_slots.new.free.items c.in_ok-caught.caught.items c.requires.waiters (λ i. w.same i ∙ ap (λ l. get_or l i 0) c.in_ok-words.ensures.items) w.size.0 c.as_slice.ensures.value c.in_ok-caught.ensures.items f.free f.all f.once in
    record { map = o.map }
