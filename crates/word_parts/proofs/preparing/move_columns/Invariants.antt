use Rattle.std.proofs.Common.{◌≤◌, length}
use Rattle.std.specs.Vec.{vec_capacity}
use Rattle.graph_terms.specs.Graph.{columns}
use Rattle.word_steps.specs.Layout.{size_of, slot_count}
use Rattle.word_parts.specs.Preparing.{AreMoved, AreLoose, AreOutBelow}
use Rattle.word_parts.proofs.preparing.move_columns.Given as goal

abbrev pub invariant-loop-c : goal.invariant-loop-c
invariant-loop-c l = record {
  moved : AreMoved l.graph l.c l.slots.items l.lent.items;
  loose : AreLoose l.slots.items × AreLoose l.lent.items;
  room : (slot_count (size_of l.graph) ≤ vec_capacity l.slots) × (length (columns l.graph) ≤ vec_capacity l.lent);
  out : AreOutBelow l.graph l.c l.homes;
}
