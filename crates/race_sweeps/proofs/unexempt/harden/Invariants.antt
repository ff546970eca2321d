use Rattle.std.proofs.Common.{◌≡◌, ℕ, ◌<◌, length}
use Rattle.std.specs.Prelude.{Some, slice_get, slice_index}
use Rattle.graph_terms.specs.declared.verb.Access.{Access}
use Rattle.graph_terms.specs.Graph.{GraphValue}
use Rattle.race_sweeps.specs.Scan.{HasHard, IsHardTo}
use Rattle.race_sweeps.proofs.unexempt.harden.Given as goal

abbrev pub invariant-loop-other : goal.invariant-loop-other
invariant-loop-other l = record {
  size : length l.hard.items ≡ length l.table.keys.items;
  hard : (g : GraphValue) (end : ℕ) (a : Access) → l.place < end → slice_get l.table.keys.items l.class ≡ Some a → HasHard g l.table.limit (slice_index l.table.lines.items l.place) a.column a.space
      → IsHardTo g l.table l.fn.hard.items end → IsHardTo g l.table l.hard.items end;
}
