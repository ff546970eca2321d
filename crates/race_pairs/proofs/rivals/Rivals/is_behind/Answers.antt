use Rattle.std.proofs.Common.{◌+◌, arith}
use Rattle.race_pairs.proofs.Freeing.{later_settled, later_race}
use Rattle.race_pairs.proofs.rivals.Rivals.is_behind.Goals as goal

pub returns-clause-race : goal.returns-clause-race
returns-clause-race c h = later_race c.args.graph.now (c.args.self.now.first + c.args.bit) c.args.line (omega arith) (c.is_rival.ensures.race h)

pub returns-clause-free : goal.returns-clause-free
returns-clause-free c h = later_settled c.args.graph.now (c.args.self.now.first + c.args.bit) c.args.line (λ low. c.is_rival.ensures.free h)
