use Rattle.std.proofs.Common.{◌-◌, arith}
use Rattle.race_sweeps.proofs.Reaching.{reach_self}
use Rattle.race_sweeps.proofs.reach.Reach.sweep_block.Goals as goal

pub loop-place-preserved-then-word-ne0 : goal.loop-place-preserved-then-word-ne0
loop-place-preserved-then-word-ne0 c =
    let was = c.loop-place.invariant in
    record {
      within = omega (arith, was.within);
      bounded = c.pass.ensures.bounded;
      reach = c.pass.ensures.reach c.args.first was.reach
          (reach_self c.args.graph.now c.args.table.now.lines.items c.loop-place.self.words.items c.args.first (c.loop-place.place - 1) c.index.result.now c.own_bit.result was.reach
          (omega (arith, was.within, was.reach.size, c.requires.end, c.loop-place-test.true)) c.index.ensures c.own_bit.ensures);
    }
