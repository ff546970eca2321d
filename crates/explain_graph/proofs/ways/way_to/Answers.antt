use Rattle.std.proofs.Common.{refl, sym}
use Rattle.explain_graph.proofs.ways.way_to.Goals as goal

pub returns-clause-way : goal.returns-clause-way
returns-clause-way c = record { reach = c.in-Some.reach; is = sym c.in-Some.ensures; start = refl; path = λ all l. c.in_ok-path.ensures all c.in-Some.reach l (sym c.in-Some.ensures) }
