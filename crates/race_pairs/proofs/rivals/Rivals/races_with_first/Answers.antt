use Rattle.std.proofs.Common.{◌≡◌, ◌+◌, subst, arith}
use Rattle.graph_meaning.specs.Rules.{RaceAt}
use Rattle.race_pairs.proofs.rivals.Rivals.races_with_first.Goals as goal

pub returns-clause-race : goal.returns-clause-race
returns-clause-race c is holds =
    let first = c.args.self.now.first in
    let e : first ≡ first + 0 = omega arith in
    c.is_race.ensures.race is (subst (λ z. RaceAt c.args.graph.now z c.args.line) e holds)
