use Rattle.std.proofs.Common.{arith, ◌≡◌, ◌<◌, length, ◌∙◌, sym, ap}
use Rattle.std.proofs.lemmas.Option.{same_Some}
use Rattle.graph_terms.specs.Graph.{columns}
use Rattle.word_steps.specs.Lending.{home_for, rest_for, in_place}
use Rattle.share_words.specs.Shares.{share_count}
use Rattle.word_steps.proofs.Public.{all_left}
use Rattle.word_parts.proofs.HomeFacts.{none_out, one_out}
use Rattle.word_parts.proofs.PrepareFacts.{loose_push, loose_home, loose_rest, moved_more}
use Rattle.word_parts.proofs.preparing.move_columns.Goals as goal

pub loop-c-init : goal.loop-c-init
loop-c-init c = record { moved = c.requires.empty; loose = c.requires.loose; room = c.requires.room; out = none_out c.args.graph.now _ c.requires.zero }

pub take_home-column-requires-clause-home : goal.take_home-column-requires-clause-home
take_home-column-requires-clause-home c =
    let near : c.loop-c.c < length (columns c.args.graph.now) = omega (arith, c.loop-c-test.true, c.columns-c-end.ensures.number) in
    (_, c.loop-c.invariant.out.home c.loop-c.c (omega arith) near)

pub of_column-requires : goal.of_column-requires
of_column-requires c = omega (arith, c.loop-c-test.true, c.columns-c-end.ensures.number, c.requires.shares.each)

pub loop-c-preserved : goal.loop-c-preserved
loop-c-preserved c =
    let g = c.args.graph.now in
    let i = c.loop-c.invariant in
    let k = c.loop-c.c in
    let x = c.take_home-column.result in
    let near : k < length (columns g) = omega (arith, c.loop-c-test.true, c.columns-c-end.ensures.number) in
    let is = same_Some x _ (sym c.take_home-column.ensures.column ∙ i.out.home k (omega arith) near) in
    let count : c.of_column.result ≡ share_count g k = c.of_column.ensures ∙ c.requires.shares.counts k near in
    let made = c.content_of-content.ensures in
    let home : c.content_of-content.result.0 ≡ home_for (share_count g k) made.0 x = made.1 ∙ ap (λ n. home_for n made.0 x) count in
    let rest : c.share_or_nothing.result ≡ rest_for (share_count g k) 1 made.0 x =
    c.share_or_nothing.ensures ∙ (ap in_place made.2 ∙ (all_left c.of_column.result made.0 x ∙ ap (λ n. rest_for n 1 made.0 x) count)) in
    record {
      moved = moved_more g k made.0 x c.loop-c.slots.items c.push_slot.new.slots.items c.loop-c.lent.items c.push_slot-in-loop-c.new.slots.items c.content_of-content.result.0 c.share_or_nothing.result
          i.moved c.push_slot.ensures.items c.push_slot-in-loop-c.ensures.items home rest is;
      loose = (
        loose_push c.loop-c.slots.items c.push_slot.new.slots.items c.content_of-content.result.0 i.loose.0 (loose_home (share_count g k) made.0 x c.content_of-content.result.0 home) c.push_slot.ensures.items,
        loose_push c.loop-c.lent.items c.push_slot-in-loop-c.new.slots.items c.share_or_nothing.result i.loose.1 (loose_rest (share_count g k) 1 made.0 x c.share_or_nothing.result rest) c.push_slot-in-loop-c.ensures.items,
      );
      room = (omega (arith, i.room.0, c.push_slot.ensures.capacity), omega (arith, i.room.1, c.push_slot-in-loop-c.ensures.capacity));
      out = one_out g c.loop-c.homes c.take_home-column.new.homes k near c.take_home-column.ensures.homes i.out;
    }
