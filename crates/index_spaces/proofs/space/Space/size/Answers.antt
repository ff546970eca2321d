use Rattle.std.proofs.Common.{arith}
use Rattle.index_spaces.proofs.PointFacts.{space_size-positive}
use Rattle.index_spaces.proofs.space.Space.size.Goals as goal

pub returns-clause-at_least : goal.returns-clause-at_least
returns-clause-at_least c = let some = space_size-positive _ c.self.invariant.is_space in omega (arith, c.self.invariant.all, some)
