use Rattle.std.proofs.Common.{◌≡◌, ◌<◌, ap, subst, arith}
use Rattle.std.specs.Prelude.{slice_index}
use Rattle.explanations.specs.Search.{near_end, IsNearest}
use Rattle.explanations.proofs.Nearest.{nearest_first, nearest_take}
use Rattle.explanations.proofs.trail.nearer.Goals as goal

pub returns-in_default : goal.returns-in_default
returns-in_default c = λ es n.
    (let some : 0 < slice_index c.args.counts.now c.near_end-near.result = omega arith in
    nearest_first (near_end c.args.way) (slice_index c.args.counts.now) es c.args.edge (subst (λ x. 0 < slice_index c.args.counts.now x) c.near_end-near.ensures some)
    (subst (λ o. IsNearest (near_end c.args.way) (slice_index c.args.counts.now) es o) c.in_default.is n))

pub returns-else-counts-other_near : goal.returns-else-counts-other_near
returns-else-counts-other_near c = λ es n.
    (let one : slice_index c.args.counts.now c.near_end-near.result ≡ slice_index c.args.counts.now (near_end c.args.way c.args.edge) = ap (slice_index c.args.counts.now) c.near_end-near.ensures in
    let other : slice_index c.args.counts.now c.near_end-other_near.result ≡ slice_index c.args.counts.now (near_end c.args.way c.in-Some.other) = ap (slice_index c.args.counts.now) c.near_end-other_near.ensures in
    let some : 0 < slice_index c.args.counts.now (near_end c.args.way c.args.edge) = omega arith in
    let less : slice_index c.args.counts.now (near_end c.args.way c.args.edge) < slice_index c.args.counts.now (near_end c.args.way c.in-Some.other) = omega arith in
    nearest_take (near_end c.args.way) (slice_index c.args.counts.now) es c.args.edge c.in-Some.other some less
    (subst (λ o. IsNearest (near_end c.args.way) (slice_index c.args.counts.now) es o) c.in-Some.is n))
