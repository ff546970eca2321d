use Rattle.std.proofs.Common.{arith}
use Rattle.race_pairs.proofs.rivals.Rivals.is_race.Goals as goal

pub returns-clause-race : goal.returns-clause-race
returns-clause-race c h rule = c.is_rival.ensures.race h (λ x. rule (omega arith) x)

pub returns-clause-free : goal.returns-clause-free
returns-clause-free c h low x = c.is_rival.ensures.free h x
