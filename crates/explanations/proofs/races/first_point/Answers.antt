use Rattle.std.proofs.Common.{◌≡◌, ◌≤◌, arith}
use Rattle.std.specs.Prelude.{slice_index}
use Rattle.index_spaces.specs.Space.{points, rank}
use Rattle.explanations.proofs.SharedFacts.{first_least}
use Rattle.explanations.proofs.races.first_point.Goals as goal

pub returns-clause-least : goal.returns-clause-least
returns-clause-least c = λ p h.
    (let s = c.args.space.now in
    let r = c.point_of_rank.ensures s p c.intervals.ensures.is_space h in
    let k : slice_index (points s) 0 ≤ slice_index (points s) (rank s p) = first_least (points s) (c.points_ascend.ensures s c.intervals.ensures.is_space) (rank s p) r.0 in
    let at : slice_index (points s) (rank s p) ≡ p = r.1 in
    let first : c.point.result ≡ slice_index (points s) 0 = c.point.ensures in omega arith)
