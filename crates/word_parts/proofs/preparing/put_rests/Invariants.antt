use Rattle.std.proofs.Common.{◌≡◌, ◌≤◌, length}
use Rattle.std.specs.Vec.{vec_capacity}
use Rattle.graph_terms.specs.Graph.{columns}
use Rattle.word_parts.specs.Preparing.{AreSpread, AreLoose}
use Rattle.word_parts.proofs.preparing.put_rests.Given as goal

abbrev pub invariant-loop-rest : goal.invariant-loop-rest
invariant-loop-rest l = record {
  spread : AreSpread l.graph (length l.rests.items) l.slots.items l.rests.items;
  loose : AreLoose l.slots.items × AreLoose l.rests.items;
  few : length l.rests.items ≤ length (columns l.graph);
  room : vec_capacity l.slots ≡ vec_capacity l.initial.slots;
}

abbrev pub decreases-loop-rest : goal.decreases-loop-rest
decreases-loop-rest l = goal.left-loop-rest l
