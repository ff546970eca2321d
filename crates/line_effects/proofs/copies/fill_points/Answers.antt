use Rattle.std.proofs.Common.{refl, arith}
use Rattle.index_spaces.specs.Space.{IsWithin}
use Rattle.line_effects.proofs.copies.fill_points.Goals as goal

pub loop-interval-preserved : goal.loop-interval-preserved
loop-interval-preserved c =
    let s = c.intervals-interval-items.result.now in
    let k = c.loop-interval.interval-index in
    let within : IsWithin s c.args.to.now.space = rw c.intervals-interval-items.ensures.intervals c.requires in
    c.spaces_are_written.ensures c.args.to.now c.loop-interval.to c.fill_run.new.self s k (0, 0) (λ p. c.args.value) (λ p. c.args.value) within (omega arith) c.loop-interval.invariant c.fill_run.ensures (λ p h. refl)
