use Rattle.std.proofs.Common.{arith}
use Rattle.section_sweeps.proofs.Finishing.{no_sections}
use Rattle.section_sweeps.proofs.held_sections.Goals as goal

pub returns-then-locks-eq0 : goal.returns-then-locks-eq0
returns-then-locks-eq0 c = no_sections c.args.graph.now c.lines-lines.ensures.is_graph (omega (arith, c.locks.ensures.number, c.if-locks-eq0.true)) c.in_ok-held.held c.in_ok-held.ensures.none
