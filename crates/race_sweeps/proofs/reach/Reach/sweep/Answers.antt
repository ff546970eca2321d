use Rattle.std.proofs.Common.{◌/◌, length, refl, subst, arith}
use Rattle.race_sweeps.specs.Reach.{IsBounded}
use Rattle.race_sweeps.proofs.Blocks.{bounded_marked}
use Rattle.race_sweeps.proofs.Reaching.{reach_none}
use Rattle.race_sweeps.proofs.reach.Reach.sweep.Goals as goal

pub loop-block-init : goal.loop-block-init
loop-block-init c =
    let n = length c.args.table.now.lines.items in
    let cleared = c.clear.new.self in
    let b = subst (λ k. IsBounded k cleared) c.requires.bounded.size c.clear.ensures.bounded in
    record {
      within = omega arith;
      bounded = bounded_marked n cleared _ (c.args.first / 64) b (omega (arith, b.blocks, c.requires.begins, c.requires.end)) refl refl;
      reach = reach_none c.args.graph.now c.args.table.now.lines.items cleared.words.items c.args.first b.size c.clear.ensures.none;
    }
