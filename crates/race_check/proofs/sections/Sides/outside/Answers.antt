use Rattle.std.proofs.Common.{arith}
use Rattle.std.proofs.lemmas.Nat.{or_lt}
use Rattle.race_check.proofs.Insides.{are_outside}
use Rattle.race_check.proofs.sections.Sides.outside.Goals as goal

pub bits-requires-clause-own : goal.bits-requires-clause-own
bits-requires-clause-own c = omega (arith, c.requires.sides.1.acquires_is.own_size, c.requires.line)

pub bits-requires-clause-passed : goal.bits-requires-clause-passed
bits-requires-clause-passed c = omega (arith, c.requires.sides.1.acquires_is.size, c.requires.line)

pub entered-requires-clause-size : goal.entered-requires-clause-size
entered-requires-clause-size c = c.requires.sides.1.behind_is.size

pub passed-requires : goal.passed-requires
passed-requires c = omega (arith, c.requires.sides.1.releases_is.size, c.requires.line)

pub returns : goal.returns
returns c first is =
    are_outside c.args.graph.now (λ e k. c.edges_between_lines.ensures c.args.graph.now e c.lines.ensures.is_graph k) first c.args.line c.args.self.now is c.passed.result c.bits.result c.entered.result
    c.bits.type_inv c.entered.type_inv (or_lt 64 c.bits.result c.entered.result c.bits.type_inv c.entered.type_inv) c.passed.ensures c.bits.ensures c.entered.ensures.is c.entered.ensures.all
