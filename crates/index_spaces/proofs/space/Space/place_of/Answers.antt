use Rattle.std.proofs.Common.{◌<◌, length, get_or, sym, arith}
use Rattle.index_spaces.proofs.PointFacts.{StopsAt, place_has, place_has_not, has_point-at, interval_has-parts}
use Rattle.index_spaces.proofs.space.Space.place_of.Goals as goal
use Rattle.index_spaces.proofs.space.Space.place_of.Goals.{After-count_below-k, else-k-intervals-via-then-k-intervals+else-intervals-k, else-k-intervals-via-else-k-intervals}

-- the intervals that begin below the point
stops : (c : After-count_below-k) → StopsAt c.args.self.now c.args.p c.count_below-k.result
stops c = rw c.intervals-intervals.ensures.intervals at c.count_below-k.ensures.place

pub returns-then-intervals-k : goal.returns-then-intervals-k
returns-then-intervals-k c =
    let s = c.args.self.now in
    let k = c.count_below-k.result in
    let p = c.args.p in
    let within : k < length s = rw c.intervals-intervals.ensures.intervals at c.if-k-intervals.true in
    let from = rw c.intervals-intervals.ensures.intervals at c.if-intervals-k.true in
    let has = place_has s p k (stops (goal.at.returns-then-intervals-k c).After-count_below-k) within from in
    let parts = interval_has-parts (get_or s k (0, 0)) p (has (0, 0)) in
    record { in_space = sym (has_point-at s p k (0, 0) within parts.0 parts.1); within = within; has = has }

pub returns-else-k-intervals : goal.returns-else-k-intervals
returns-else-k-intervals c =
    let s = c.args.self.now in
    let k = c.count_below-k.result in
    let above : k < length s → c.args.p < (get_or s k (0, 0)).0 = λ within. elim c.else-k-intervals.branch [
      | else-k-intervals-via-then-k-intervals+else-intervals-k w ↦ (let past = rw c.intervals-intervals.ensures.intervals at w.if-intervals-k.false in past)
      | else-k-intervals-via-else-k-intervals w ↦ absurd (let past = rw c.intervals-intervals.ensures.intervals at w.if-k-intervals.false in omega (arith, past))
    ] in
    record { in_space = sym (place_has_not s c.args.p k c.intervals-intervals.ensures.is_space.1 (stops (goal.at.returns-else-k-intervals c).After-count_below-k) above); within = tt; has = tt }
