use Rattle.std.proofs.Common.{◌≡◌, ◌++◌, take}
use Rattle.explain_text.specs.Lines.{all_edges_text}
use Rattle.explain_text.proofs.lines.put_all_edges.Given as goal

abbrev pub invariant-loop-edge : goal.invariant-loop-edge
invariant-loop-edge l = l.text ≡ l.initial.text ++ all_edges_text l.graph l.lines (take l.edge-index l.path)
