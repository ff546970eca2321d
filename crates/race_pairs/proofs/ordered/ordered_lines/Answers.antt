use Rattle.std.proofs.Common.{arith}
use Rattle.race_pairs.proofs.Freeing.{later_above}
use Rattle.race_pairs.proofs.LastLines.{none_more}
use Rattle.race_pairs.proofs.ordered.ordered_lines.Goals as goal

pub loop-line-init : goal.loop-line-init
loop-line-init c = record {
  begins = omega arith;
  size = omega (arith, c.in_ok-last.ensures.size, c.all_columns.ensures);
  free = later_above c.args.graph.now c.args.first c.requires.above;
  last = λ i a begins low. absurd (omega (arith, begins, low));
}

pub loop-line-preserved : goal.loop-line-preserved
loop-line-preserved c =
    let inv = c.loop-line.invariant in
    let follows = c.if-not-follows.false in
    record {
      begins = (let b = inv.begins in omega (arith, b));
      size = c.follows.ensures.size;
      free = none_more c.args.graph.now c.args.first c.loop-line.line c.requires.above (c.follows.ensures.led follows) inv.free;
      last = c.follows.ensures.last follows;
    }
