use Rattle.std.proofs.Common.{arith}
use Rattle.race_pairs.proofs.Freeing.{all_free, free_more}
use Rattle.race_pairs.proofs.races.free_by_noted_blocks.Goals as goal

pub loop-first-init : goal.loop-first-init
loop-first-init c = record { few = omega arith; settled = λ k r low h. absurd (omega arith) }

pub loop-first-preserved : goal.loop-first-preserved
loop-first-preserved c =
    let e = c.in_ok-free.ensures in
    record {
      few = omega (arith, e.few, c.loop-first.invariant.few);
      settled = free_more c.args.graph.now c.args.racing.now c.loop-first.first c.loop-first.free c.in_ok-free.free e.few c.loop-first.invariant.settled e.settled;
    }

pub returns : goal.returns
returns c k low = all_free c.args.graph.now c.args.racing.now c.lines-lines.result k (omega (arith, c.requires.size, c.lines-lines.ensures.number)) c.requires.enough
    (λ r there noted. c.loop-first.invariant.settled k r low (omega (arith, there, c.loop-first-test.false)) noted)
