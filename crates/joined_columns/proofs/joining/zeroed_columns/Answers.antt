use Rattle.std.proofs.Common.{ap, ◌∙◌, length, arith}
use Rattle.std.proofs.lemmas.List.{length_push}
use Rattle.joined_columns.proofs.Putting.{zeroed_column, zeroed_more}
use Rattle.joined_columns.proofs.joining.zeroed_columns.Goals as goal

pub loop-c-preserved : goal.loop-c-preserved
loop-c-preserved c =
    let g = c.args.graph.now in
    let column = zeroed_column g c.loop-c.c c.in_ok-column.column c.column_space.result.now c.column_space.ensures c.in_ok-column.ensures.space c.in_ok-column.ensures.zero in
    let more = ap length c.push_within.ensures.items ∙ length_push c.loop-c.zeroed.items _ in
    record {
      zeroed = zeroed_more g c.loop-c.zeroed.items c.push_within.new.items.items c.in_ok-column.column c.loop-c.c c.loop-c.invariant.zeroed c.push_within.ensures.items column;
      number = omega (arith, more, c.push_within.new.items.ok.0, c.loop-c.zeroed.ok.0, c.loop-c.invariant.number);
      room = omega (arith, c.loop-c.invariant.room, c.push_within.ensures.capacity);
    }
