use Rattle.std.proofs.Common.{◌≡◌, ◌<◌, ℕ, true}
use Rattle.std.specs.Prelude.{Some, slice_get}
use Rattle.graph_terms.specs.declared.verb.Line.{Line}
use Rattle.flow_top.specs.FlowText.{is_flow_line}
use Rattle.flow_top.proofs.reading.first_other.Given as goal

abbrev pub invariant-loop-line : goal.invariant-loop-line
invariant-loop-line l = (i : ℕ) (x : Line) → i < l.line → slice_get l.graph.lines i ≡ Some x → is_flow_line x ≡ true
