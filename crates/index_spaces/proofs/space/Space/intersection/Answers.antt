use Rattle.std.proofs.Common.{◌<◌, length, refl, arith}
use Rattle.std.proofs.lemmas.Bool.Decides.{nat_tests}
use Rattle.index_spaces.proofs.MergeFacts.{Meet-from_shared}
use Rattle.index_spaces.proofs.space.Space.intersection.Goals as goal

pub returns-clause-some : goal.returns-clause-some
returns-clause-some c =
    let shared = c.in_ok-shared.shared.items in
    let some : 0 < length shared = grind (arith, nat_tests) in
    let points = rw (c.intervals.ensures.intervals, c.intervals-2.ensures.intervals) at c.in_ok-shared.ensures.points in
    (λ _. Meet-from_shared c.args.self.now c.args.other.now shared some c.in_ok-shared.ensures.ascending points, λ _. refl)

pub copy_of-requires-clause-few : goal.copy_of-requires-clause-few
copy_of-requires-clause-few c =
    let fewer = rw c.intervals.ensures.intervals at c.in_ok-shared.ensures.few in
    rw c.deref.ensures.value (omega (arith, fewer, c.size.ensures.size, c.size.ensures.at_most))
