use Rattle.std.proofs.Common.{◌<◌, ◌≤◌, ℕ, length}
use Rattle.graph_terms.specs.Graph.{columns}
use Rattle.index_spaces.specs.Column.{ColumnValue}
use Rattle.word_parts.specs.Preparing.{AreLoose, LiesStill}
use Rattle.word_parts.proofs.freeing.free_columns.Given as goal

abbrev pub invariant-loop-c : goal.invariant-loop-c
invariant-loop-c l = record {
  lie : (k : ℕ) → l.c ≤ k → k < length (columns l.graph) → (d : ℕ) × (x : ColumnValue) × LiesStill l.graph l.slots.items k d x;
  loose : AreLoose l.slots.items;
}
