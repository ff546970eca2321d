use Rattle.std.proofs.Common.{◌≡◌, ◌+◌, ℕ, length}
use Rattle.std.specs.Prelude.{◌/◌}
use Rattle.flow_order.specs.Bits.{word_bit}
use Rattle.task_flow.specs.Sums.{AreSums}
use Rattle.flow_order.specs.SourceParts.{sources_after}
use Rattle.task_flow.specs.Construction.{contends_below}
use Rattle.task_flow.proofs.contended.contended.Given as goal

abbrev pub invariant-loop-line : goal.invariant-loop-line
invariant-loop-line l = record {
  size : length l.bits ≡ (length l.flow.lines + 63) / 64;
  sums : AreSums l.flow l.line ((length l.flow.lines + 63) / 64) l.sums.columns.items;
  bits : (k : ℕ) → word_bit l.bits k ≡ contends_below l.flow (sources_after l.flow l.commute (length l.flow.lines)) k l.line;
}
