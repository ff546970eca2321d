use Rattle.explain_graph.specs.Ways.{AreFarthest}
use Rattle.explain_graph.proofs.ways.farthest_lines.Given as goal

abbrev pub invariant-loop-reach : goal.invariant-loop-reach
invariant-loop-reach l = AreFarthest l.reaches l.reach-index l.farthest.items
