use Rattle.std.proofs.Common.{◌+◌, arith}
use Rattle.std.proofs.lemmas.Nat.{or_lt}
use Rattle.conflict_classes.proofs.Public.{access_there}
use Rattle.race_pairs.proofs.RaceSteps.{are_suspects}
use Rattle.race_pairs.proofs.rivals.Rivals.suspects.Goals as goal

pub passed-requires : goal.passed-requires
passed-requires c = omega (arith, c.requires.rivals.behind_is.size, c.requires.line)

pub passed-requires-2 : goal.passed-requires-2
passed-requires-2 c = omega (arith, c.requires.rivals.before_is.size, c.requires.line)

pub of-requires-clause-asked : goal.of-requires-clause-asked
of-requires-clause-asked c = (c.args.self.now.first, c.requires.rivals.end, c.requires.rivals.asked_is)

pub returns : goal.returns
returns c =
    let g = c.args.graph.now in
    let r = c.args.self.now in
    let is = c.requires.rivals in
    are_suspects g (λ e k. c.edges_between_lines.ensures g e c.lines.ensures.is_graph k) r is c.args.line c.of.result c.passed.result c.passed-2.result c.requires.line
    (or_lt 64 c.passed.result c.passed-2.result c.passed.type_inv c.passed-2.type_inv) c.passed.ensures c.passed-2.ensures
    (λ b few conflict. c.of.ensures r.first is.end b is.asked_is (is.within b few (access_there g (r.first + b) conflict.one conflict.one_in)) conflict)
