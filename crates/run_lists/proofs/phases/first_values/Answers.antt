use Rattle.std.proofs.Common.{arith}
use Rattle.run_state.specs.Start.{first_value}
use Rattle.run_lists.proofs.ListsOfLines.{line_pushed, count_pushed}
use Rattle.run_lists.proofs.phases.first_values.Goals as goal

pub loop-line-preserved : goal.loop-line-preserved
loop-line-preserved c =
    let old = c.loop-line.values in
    let new = c.push_within.new.items in
    record {
      so_far = line_pushed (first_value c.args.graph.now) c.loop-line.line c.first_value.result old.items new.items c.loop-line.invariant.so_far c.first_value.ensures c.push_within.ensures.items;
      number = count_pushed c.first_value.result old.items new.items _ _ c.loop-line.line old.ok.0 new.ok.0 c.push_within.ensures.items c.loop-line.invariant.number;
      room = omega (arith, c.loop-line.invariant.room, c.push_within.ensures.capacity);
    }
