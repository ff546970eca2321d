use Rattle.std.proofs.Common.{ℕ, ap, ◌∙◌, arith, [], subst, sym}
use Rattle.std.specs.Slots.{slots_items}
use mathlib.Core.Logic.{dite}
use native.Mathlib.Decide.{ℕ_discrete}
use Rattle.event_table.specs.EventMap.{all_free, up_to_gen}
use Rattle.event_table.specs.Kept.{map_in, IsTakenOver}
use Rattle.event_table.proofs.TakeOver.{fresh_sizes, takes_over}
use Rattle.event_table.proofs.table.EventTable.taking.Goals as goal

pub loop-slot-preserved : goal.loop-slot-preserved
loop-slot-preserved c = let s = c.self.inside in let l = c.loop-slot in
    let z = fresh_sizes s.shape s.words.items s.caught.items c.args.shape.now.slots c.args.shape.now.waiters c.args.self.last_gen (c.self.view_is ∙ c.requires.same) in
    record {
      done = λ i near. dite (ℕ_discrete i l.slot)
          (λ e. subst (IsTakenOver s.shape c.args.shape.now c.copy_slot.new.to.items (slots_items c.args.closed.now.words)) (sym e) c.copy_slot.ensures.here)
          (λ n. c.copy_slot.ensures.others i (omega (arith, z.0, c.loop-slot-test.true)) n (l.invariant.done i (omega arith)));
      size = omega (arith, l.invariant.size, c.copy_slot.ensures.size);
      room = omega (arith, l.invariant.room, c.copy_slot.ensures.room);
    }

pub invariant_of-result : goal.invariant_of-result
invariant_of-result c = let s = c.self.inside in let k = c.self.invariant in let l = c.loop-slot in let f = c.free_slots.ensures in
    let z = fresh_sizes s.shape s.words.items s.caught.items c.args.shape.now.slots c.args.shape.now.waiters c.args.self.last_gen (c.self.view_is ∙ c.requires.same) in
    let t = takes_over c.args.shape.now s.shape (slots_items c.args.closed.now.words) l.words.items c.as_slice.result.now c.free_slots.new.free.items c.clear.new.self.items c.requires.sized (z.0, z.1) c.requires.shown (omega (arith, k.kept.shown.wide, l.invariant.size))
    (λ i near. l.invariant.done i (omega (arith, z.0, c.loop-slot-test.false))) c.as_slice.ensures.value c.clear.ensures.items f.free f.all f.once in
    record { sized = k.sized; kept = t.kept; room_words = omega (arith, k.room_words, l.invariant.room); room_free = omega (arith, k.room_free, c.clear-2.ensures.capacity, f.room); room_caught = omega (arith, k.room_caught, c.clear.ensures.capacity) }

pub returns : goal.returns
returns c = let s = c.self.inside in let k = c.self.invariant in let l = c.loop-slot in let f = c.free_slots.ensures in
    let z = fresh_sizes s.shape s.words.items s.caught.items c.args.shape.now.slots c.args.shape.now.waiters c.args.self.last_gen (c.self.view_is ∙ c.requires.same) in
    let t = takes_over c.args.shape.now s.shape (slots_items c.args.closed.now.words) l.words.items c.as_slice.result.now c.free_slots.new.free.items c.clear.new.self.items c.requires.sized (z.0, z.1) c.requires.shown (omega (arith, k.kept.shown.wide, l.invariant.size))
    (λ i near. l.invariant.done i (omega (arith, z.0, c.loop-slot-test.false))) c.as_slice.ensures.value c.clear.ensures.items f.free f.all f.once in
    record { map = t.map ∙ ap (λ (n : ℕ). up_to_gen n (all_free (map_in c.args.shape.now (slots_items c.args.closed.now.words) []))) z.2 }
