use Rattle.std.proofs.Common.{arith}
use Rattle.std.specs.Slots.{slots_items}
use Rattle.word_steps.specs.Layout.{size_of}
use Rattle.word_parts.specs.Reading.{state_for}
use Rattle.word_parts.proofs.PrepareFacts.{all_pushed, long_pushed}
use Rattle.word_parts.proofs.closed_words.states_of.Goals as goal

pub loop-line-preserved : goal.loop-line-preserved
loop-line-preserved c =
    let i = c.loop-line.invariant in
    let old = c.loop-line.states.items in
    let new = c.push_within.new.items.items in
    record {
      number = omega (arith, i.number, c.push_within.ensures.len);
      long = long_pushed old new c.state_for.result c.loop-line.line i.long c.push_within.ensures.items;
      room = omega (arith, i.room, c.push_within.ensures.capacity);
      so_far = all_pushed (state_for (slots_items c.args.closed.now.words) (size_of c.args.graph.now) c.args.handles.now) old new c.state_for.result c.loop-line.line i.long c.push_within.ensures.items c.state_for.ensures i.so_far;
    }
