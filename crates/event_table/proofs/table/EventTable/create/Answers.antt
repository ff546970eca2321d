use Rattle.std.proofs.Common.{arith}
use Rattle.event_table.proofs.ChainSteps.{at_default}
use Rattle.event_table.proofs.TableCreate.{create_near, create_low, create_done}
use Rattle.event_table.proofs.MapAnswers.{create_tells}
use Rattle.event_table.proofs.table.EventTable.create.Goals as goal

pub index-word-requires : goal.index-word-requires
index-word-requires c = let s = c.self.inside in let k = c.self.invariant in
    let l = create_near s.shape s.words.items s.free.items c.pop.new.self.items s.caught.items c.in-Some.slot 0 k.sized k.kept c.in-Some.ensures.items in
    omega (arith, s.words.ok.0, k.kept.shown.wide)

pub index_mut-requires : goal.index_mut-requires
index_mut-requires c = let s = c.self.inside in let k = c.self.invariant in
    let l = create_near s.shape s.words.items s.free.items c.pop.new.self.items s.caught.items c.in-Some.slot 0 k.sized k.kept c.in-Some.ensures.items in
    omega (arith, s.words.ok.0, k.kept.shown.wide)

pub overflow_add-word : goal.overflow_add-word
overflow_add-word c = let s = c.self.inside in let k = c.self.invariant in
    let l = create_near s.shape s.words.items s.free.items c.pop.new.self.items s.caught.items c.in-Some.slot 0 k.sized k.kept c.in-Some.ensures.items in
    let at = at_default s.words.items c.in-Some.slot c.index-word.result.now (omega (arith, k.kept.shown.wide)) c.index-word.ensures in
    omega (arith, create_low s.shape s.words.items s.free.items c.pop.new.self.items s.caught.items c.in-Some.slot c.index-word.result.now k.sized k.kept c.in-Some.ensures.items at)

pub invariant_of-self-2 : goal.invariant_of-self-2
invariant_of-self-2 c = let s = c.self.inside in let k = c.self.invariant in
    let l = create_near s.shape s.words.items s.free.items c.pop.new.self.items s.caught.items c.in-Some.slot 0 k.sized k.kept c.in-Some.ensures.items in
    let at = at_default s.words.items c.in-Some.slot c.index-word.result.now (omega (arith, k.kept.shown.wide)) c.index-word.ensures in
    let d = create_done s.shape s.words.items s.free.items c.pop.new.self.items s.caught.items c.in-Some.slot c.index-word.result.now k.sized k.kept c.in-Some.ensures.items c.args.self.now c.self.view_is at in
    record { sized = k.sized; kept = d.kept; room_words = k.room_words; room_free = omega (arith, k.room_free, c.in-Some.ensures.capacity); room_caught = k.room_caught }

pub returns : goal.returns
returns c = let s = c.self.inside in let k = c.self.invariant in
    let l = create_near s.shape s.words.items s.free.items c.pop.new.self.items s.caught.items c.in-Some.slot 0 k.sized k.kept c.in-Some.ensures.items in
    let at = at_default s.words.items c.in-Some.slot c.index-word.result.now (omega (arith, k.kept.shown.wide)) c.index-word.ensures in
    let d = create_done s.shape s.words.items s.free.items c.pop.new.self.items s.caught.items c.in-Some.slot c.index-word.result.now k.sized k.kept c.in-Some.ensures.items c.args.self.now c.self.view_is at in
    let t = create_tells c.args.self.now _ c.in-Some.slot _ d.map d.handle d.may in
    record {
      map = (d.map, d.handle, d.may);
      pending = (t.pending, t.before, d.real);
      others = t.others;
      none = tt;
      created = (t.keeps, t.is);
      free = t.free;
    }
