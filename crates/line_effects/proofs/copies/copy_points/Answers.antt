use Rattle.std.proofs.Common.{refl, arith}
use Rattle.index_spaces.specs.Space.{IsWithin}
use Rattle.index_spaces.specs.Column.{cell_of}
use Rattle.line_effects.proofs.copies.copy_points.Goals as goal

pub loop-interval-preserved : goal.loop-interval-preserved
loop-interval-preserved c =
    let s = c.intervals-interval-items.result.now in
    let k = c.loop-interval.interval-index in
    let within : IsWithin s c.args.to.now.space = rw c.intervals-interval-items.ensures.intervals c.requires.here in
    c.spaces_are_written.ensures c.args.to.now c.loop-interval.to c.copy_run.new.self s k (0, 0) (cell_of c.args.from.now) (cell_of c.args.from.now) within (omega arith) c.loop-interval.invariant c.copy_run.ensures (λ p h. refl)
