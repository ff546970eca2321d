use Rattle.std.proofs.Common.{◌<◌, ◌≤◌, length, ◌∙◌, arith}
use Rattle.flow_order.specs.Bits.{word_bit}
use Rattle.flow_order.specs.SourceParts.{sources_after}
use Rattle.task_flow.proofs.ContendSteps.{left_meets, left_misses, left_ends, adds_at, reached_by}
use Rattle.task_flow.proofs.contended.mark_rivals.Goals as goal

pub others-preserved-then-not-meets_sum : goal.others-preserved-then-not-meets_sum
others-preserved-then-not-meets_sum c =
    let f = c.args.flow.now in
    let next = c.in-Some.ensures in
    let less : c.in-Some.other < c.others.above = next.0 in
    let most : c.others.above ≤ c.args.line = c.others.invariant.most in
    record {
      size = c.others.invariant.size;
      most = omega arith;
      left = λ k. left_misses f (sources_after f c.args.commute (length f.lines)) c.args.line c.args.sum c.requires.sum c.index-adding.result.now c.in_ok-hidden.hidden (adds_at f c.args.line _ c.args.sums.now.columns.items c.args.sum.column c.index-adding.result.now c.requires.sums c.requires.column c.index-adding.ensures)
          (reached_by f c.args.commute c.args.rows.now.rows.items c.args.line c.in_ok-hidden.hidden c.requires.rows c.requires.all c.requires.line c.in_ok-hidden.ensures.bits) k c.others.above c.in-Some.other (word_bit c.args.bits.now k) (word_bit c.others.bits k) c.meets_sum.result
          c.others.invariant.most next.0 next.1 next.2 c.meets_sum.ensures c.if-not-meets_sum.true (c.others.invariant.left k);
    }

pub others-preserved : goal.others-preserved
others-preserved c =
    let f = c.args.flow.now in
    let next = c.in-Some.ensures in
    let less : c.in-Some.other < c.others.above = next.0 in
    let most : c.others.above ≤ c.args.line = c.others.invariant.most in
    record {
      size = c.set-in-Some.ensures.size ∙ (c.set.ensures.size ∙ c.others.invariant.size);
      most = omega arith;
      left = λ k. left_meets f (sources_after f c.args.commute (length f.lines)) c.args.line c.args.sum c.requires.sum c.index-adding.result.now c.in_ok-hidden.hidden (adds_at f c.args.line _ c.args.sums.now.columns.items c.args.sum.column c.index-adding.result.now c.requires.sums c.requires.column c.index-adding.ensures)
          (reached_by f c.args.commute c.args.rows.now.rows.items c.args.line c.in_ok-hidden.hidden c.requires.rows c.requires.all c.requires.line c.in_ok-hidden.ensures.bits) k c.others.above c.in-Some.other (word_bit c.args.bits.now k) (word_bit c.others.bits k) (word_bit c.set.new.self k) (word_bit c.set-in-Some.new.self k) c.meets_sum.result
          c.others.invariant.most next.0 next.1 next.2 c.meets_sum.ensures c.if-not-meets_sum.false (c.set.ensures.bits k) (c.set-in-Some.ensures.bits k) (c.others.invariant.left k);
    }

pub returns-clause-bits : goal.returns-clause-bits
returns-clause-bits c =
    let f = c.args.flow.now in
    λ k. left_ends f (sources_after f c.args.commute (length f.lines)) c.args.line c.args.sum c.requires.sum c.index-adding.result.now c.in_ok-hidden.hidden (adds_at f c.args.line _ c.args.sums.now.columns.items c.args.sum.column c.index-adding.result.now c.requires.sums c.requires.column c.index-adding.ensures)
    (reached_by f c.args.commute c.args.rows.now.rows.items c.args.line c.in_ok-hidden.hidden c.requires.rows c.requires.all c.requires.line c.in_ok-hidden.ensures.bits) k c.others.above (word_bit c.args.bits.now k) (word_bit c.others.bits k) c.others.invariant.most c.in_default.ensures (c.others.invariant.left k)
