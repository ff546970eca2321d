use Rattle.std.proofs.Common.{◌≡◌, ℕ, List, length, take}
use Rattle.std.specs.Prelude.{Contains}
use Rattle.graph_terms.specs.declared.verb.Edge.{Edge}
use Rattle.line_marks.specs.Marking.{IsMarking}
use Rattle.explanations.specs.Search.{AreOrigins}
use Rattle.explanations.proofs.search.Search.find_starts.Given as goal

abbrev pub invariant-loop-line : goal.invariant-loop-line
invariant-loop-line l = record {
  marking : IsMarking (Contains (take l.line-index l.starts)) 1 l.initial.self.marks.by_line.items l.initial.self.marks.pending.items l.self.marks.by_line.items l.self.marks.pending.items;
  size : length l.self.origins.items ≡ length l.self.marks.by_line.items;
  origins : (all : List Edge) (near far : Edge → ℕ) → AreOrigins all near far l.starts l.self.marks.by_line.items l.self.origins.items;
}
