use Rattle.std.proofs.Common.{arith}
use Rattle.race_pairs.proofs.FreshLines.{no_ends, fresh_more, none_races}
use Rattle.race_pairs.proofs.fresh.all_fresh.Goals as goal

pub loop-line-init : goal.loop-line-init
loop-line-init c = record {
  size = omega (arith, c.in_ok-ends.ensures.size, c.all_columns.ensures);
  ends = no_ends c.args.graph.now c.in_ok-ends.ends.items;
  fresh = λ j low. absurd (omega (arith, low));
}

pub loop-line-preserved : goal.loop-line-preserved
loop-line-preserved c =
    let e = c.is_fresh.ensures in
    let passes = c.if-not-is_fresh.false in
    record {
      size = e.size;
      ends = e.ends passes;
      fresh = fresh_more c.args.graph.now c.loop-line.line c.loop-line.invariant.fresh (e.fresh passes);
    }

pub returns : goal.returns
returns c h = none_races c.args.graph.now (λ j low. c.loop-line.invariant.fresh j (omega (arith, low, c.loop-line-test.false)))
