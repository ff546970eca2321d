use Rattle.std.proofs.Common.{ap, arith}
use Rattle.index_spaces.specs.Space.{IsSpace, IsWithin}
use Rattle.index_spaces.specs.Column.{cell_of}
use Rattle.index_spaces.specs.Run.{reduced_cell}
use Rattle.index_spaces.proofs.Public.{point_in}
use Rattle.line_effects.proofs.copies.reduce_points.Goals as goal

pub loop-interval-preserved : goal.loop-interval-preserved
loop-interval-preserved c =
    let s = c.intervals-interval-items.result.now in
    let k = c.loop-interval.interval-index in
    let old = c.args.to.now in
    let from = c.args.from.now in
    let op = c.args.op in
    let same = c.intervals-interval-items.ensures.intervals in
    let within : IsWithin s old.space = rw same c.requires.here in
    let a : IsSpace s = rw same c.intervals-interval-items.ensures.is_space in
    c.spaces_are_written.ensures old c.loop-interval.to c.reduce_run.new.self s k (0, 0)
    (λ p. reduced_cell op (cell_of old p) (cell_of from p)) (λ p. reduced_cell op (cell_of c.loop-interval.to p) (cell_of from p))
    within (omega arith) c.loop-interval.invariant c.reduce_run.ensures
    (λ p h. ap (λ v. reduced_cell op v (cell_of from p)) (c.loop-interval.invariant.outside p (within p (point_in s k p (omega arith) h)) (c.earlier_points.ensures s k (0, 0) p a (omega arith) h)))
