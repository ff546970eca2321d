use Rattle.std.proofs.Common.{◌<◌, ◌≤◌, length, arith, ◌∙◌, ap}
use Rattle.std.proofs.lemmas.List.{take_all}
use Rattle.index_spaces.specs.Space.{space_size}
use Rattle.index_spaces.proofs.PointFacts.{runs_up, space_size-more}
use Rattle.index_spaces.proofs.space.faults.point_count.Goals as goal

pub overflow_sub-interval : goal.overflow_sub-interval
overflow_sub-interval c = (runs_up 0 _ c.loop-interval.interval-index (0, 0) c.requires.ascending (omega arith)).0

pub overflow_add-count-in-loop-interval : goal.overflow_add-count-in-loop-interval
overflow_add-count-in-loop-interval c =
    let up = runs_up 0 _ c.loop-interval.interval-index (0, 0) c.requires.ascending (omega arith) in
    omega (arith, up)

pub loop-interval-preserved : goal.loop-interval-preserved
loop-interval-preserved c =
    let up = runs_up 0 _ c.loop-interval.interval-index (0, 0) c.requires.ascending (omega arith) in
    let more = space_size-more _ c.loop-interval.interval-index (0, 0) (let h : c.loop-interval.interval-index < length c.args.intervals.now = omega arith in h) in
    (omega (arith, up, more), omega (arith, up))

pub returns : goal.returns
returns c = c.loop-interval.invariant.0 ∙ ap space_size (take_all _ _ (let h : length c.args.intervals.now ≤ c.loop-interval.interval-index = omega arith in h))
