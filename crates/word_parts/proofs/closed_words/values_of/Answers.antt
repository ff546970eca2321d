use Rattle.std.proofs.Common.{arith}
use Rattle.std.specs.Prelude.{slice_index}
use Rattle.std.specs.Slots.{slots_items}
use Rattle.graph_terms.specs.Graph.{verb_at}
use Rattle.word_steps.specs.Layout.{size_of, value_word}
use Rattle.word_parts.specs.Reading.{value_for}
use Rattle.word_parts.proofs.PrepareFacts.{all_pushed, long_pushed}
use Rattle.word_parts.proofs.closed_words.values_of.Goals as goal

pub loop-line-preserved : goal.loop-line-preserved
loop-line-preserved c =
    let i = c.loop-line.invariant in
    let old = c.loop-line.values.items in
    let new = c.push_within.new.items.items in
    let g = c.args.graph.now in
    record {
      number = omega (arith, i.number, c.push_within.ensures.len);
      long = long_pushed old new c.value_of.result c.loop-line.line i.long c.push_within.ensures.items;
      room = omega (arith, i.room, c.push_within.ensures.capacity);
      so_far = all_pushed (λ k. value_for (verb_at g k) (slice_index (slots_items c.args.closed.now.words) (value_word (size_of g) k))) old new c.value_of.result c.loop-line.line i.long c.push_within.ensures.items c.value_of.ensures i.so_far;
    }
