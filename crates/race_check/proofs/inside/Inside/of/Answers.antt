use Rattle.std.proofs.Common.{arith}
use Rattle.race_check.proofs.Insides.{are_between}
use Rattle.race_check.proofs.inside.Inside.of.Goals as goal

pub passed-requires : goal.passed-requires
passed-requires c = omega (arith, c.requires.inside.1.behind_is.size, c.requires.line)

pub passed-requires-2 : goal.passed-requires-2
passed-requires-2 c = omega (arith, c.requires.inside.1.releases_is.size, c.requires.line)

pub returns : goal.returns
returns c first is = are_between c.args.graph.now (λ e k. c.edges_between_lines.ensures c.args.graph.now e c.lines.ensures.is_graph k) first c.args.line c.passed.result c.passed-2.result c.args.self.now is c.passed.ensures c.passed-2.ensures
