use Rattle.std.proofs.Common.{◌≡◌, ℕ, ◌+◌, ◌<◌, length}
use Rattle.std.specs.Prelude.{Contains, slice_index}
use Rattle.graph_terms.specs.Graph.{locks}
use Rattle.line_marks.specs.Marking.{unmarked}
use Rattle.slot_need.specs.High.{AreAcquiresMarked, IsFlooding, weight_of}
use Rattle.slot_need.proofs.high_numbers.Flood.run.Given as goal

abbrev pub invariant-loop-line : goal.invariant-loop-line
invariant-loop-line l = record {
  size : length l.self.marks.by_line.items ≡ length l.graph.lines;
  locks_noted : length l.self.noted.items ≡ length (locks l.graph);
  acquires : AreAcquiresMarked l.graph l.self.marks.by_line.items l.self.noted.items;
  known : (i : ℕ) → Contains l.self.marks.pending.items i → i < length l.graph.lines;
  flooding : (old : ℕ → ℕ) (m : ℕ) → l.mark ≡ weight_of l.graph m → IsFlooding l.graph old (slice_index l.initial.self.marks.by_line.items) m l.initial.self.marks.pending.items →
      IsFlooding l.graph old (slice_index l.self.marks.by_line.items) m l.self.marks.pending.items;
}

abbrev pub decreases-loop-line : goal.decreases-loop-line
decreases-loop-line l = unmarked l.self.marks.by_line.items + length l.self.marks.pending.items
