use Rattle.std.proofs.Common.{ap, ◌∙◌, length, arith}
use Rattle.std.proofs.lemmas.List.{length_push}
use Rattle.line_effects.proofs.HomesFacts.{zeroed_column, home_more}
use Rattle.line_effects.proofs.homes.Homes.zeroed.Goals as goal

pub loop-c-preserved : goal.loop-c-preserved
loop-c-preserved c =
    let column = zeroed_column c.args.graph.now c.loop-c.c c.in_ok-column.column c.column_space.result.now c.column_space.ensures c.in_ok-column.ensures.space c.in_ok-column.ensures.zero in
    let more = ap length c.push_within.ensures.items ∙ length_push c.loop-c.places.items _ in
    record {
      home = home_more c.args.graph.now c.loop-c.places.items c.push_within.new.items.items c.in_ok-column.column c.loop-c.c c.loop-c.invariant.home c.push_within.ensures.items column;
      number = omega (arith, more, c.push_within.new.items.ok.0, c.loop-c.places.ok.0, c.loop-c.invariant.number);
      room = omega (arith, c.loop-c.invariant.room, c.push_within.ensures.capacity);
    }
