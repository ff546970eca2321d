use Rattle.std.proofs.Common.{◌≡◌, ◌<◌, ◌-◌, suc, List, ℕ, length, sym, subst, arith}
use Rattle.event_table.proofs.FreeSlots.{Fills, fills_none, fills_more, fills_skip, fills_room}
use Rattle.event_table.proofs.word.free_slots.Goals as goal

pub loop-slot-init : goal.loop-slot-init
loop-slot-init c = record { low = omega arith; room = omega arith; fills = subst (λ (l : List ℕ). Fills c.args.slots c.args.words.now c.args.slots l) (sym c.requires.empty) (fills_none c.args.slots c.args.words.now) }

pub push_within-requires : goal.push_within-requires
push_within-requires c = let i = c.loop-slot.invariant in let is : c.loop-slot.slot ≡ suc (c.loop-slot.slot - 1) = omega (arith, c.loop-slot-test.true) in
    let few : length c.loop-slot.free.items < c.args.slots = fills_room c.args.slots c.args.words.now c.loop-slot.slot (c.loop-slot.slot - 1) c.loop-slot.free.items is i.low i.fills in
    omega (arith, c.loop-slot.free.ok.0, i.room, c.requires.room)

pub loop-slot-preserved-then-words-slot-eq0 : goal.loop-slot-preserved-then-words-slot-eq0
loop-slot-preserved-then-words-slot-eq0 c = let i = c.loop-slot.invariant in let is : c.loop-slot.slot ≡ suc (c.loop-slot.slot - 1) = omega (arith, c.loop-slot-test.true) in record {
  low = omega (arith, i.low);
  room = omega (arith, i.room, c.push_within.ensures.capacity);
  fills = subst (Fills c.args.slots c.args.words.now (c.loop-slot.slot - 1)) (sym c.push_within.ensures.items) (fills_more c.args.slots c.args.words.now c.loop-slot.slot (c.loop-slot.slot - 1) c.loop-slot.free.items is i.low i.fills c.if-words-slot-eq0.true);
}

pub loop-slot-preserved : goal.loop-slot-preserved
loop-slot-preserved c = let i = c.loop-slot.invariant in let is : c.loop-slot.slot ≡ suc (c.loop-slot.slot - 1) = omega (arith, c.loop-slot-test.true) in record {
  low = omega (arith, i.low);
  room = i.room;
  fills = fills_skip c.args.slots c.args.words.now c.loop-slot.slot (c.loop-slot.slot - 1) c.loop-slot.free.items is i.low i.fills c.if-words-slot-eq0.false;
}

pub returns : goal.returns
returns c = let i = c.loop-slot.invariant in record {
  free = λ j d. let t = i.fills.free j d in (t.1, t.2);
  all = λ j l e. i.fills.all j (omega (arith, c.loop-slot-test.false)) l e;
  once = λ f. omega (arith, i.fills.once f);
  room = i.room;
}
