use Rattle.std.proofs.Common.{arith}
use Rattle.refused_words.proofs.LimitFacts.{points_next}
use Rattle.refused_words.proofs.declared.point_count.Goals as goal

pub loop-pair-preserved : goal.loop-pair-preserved
loop-pair-preserved c = record {
  sum = points_next c.args.pairs.now c.loop-pair.pair-index c.loop-pair.points c.interval_size-points.result _ c.loop-pair-test.true c.loop-pair.invariant.sum c.interval_size-points.ensures.size;
  few = omega (arith, c.loop-pair.invariant.few, c.interval_size-points.ensures.few);
}
