use Rattle.std.proofs.Common.{◌≡◌, ◌+◌, ◌*◌, ◌≤◌, length}
use Rattle.std.specs.Prelude.{zip}
use Rattle.graph_terms.specs.Table.{parts_from}
use Rattle.graph_terms.specs.Spelling.{placed_words}
use Rattle.graph_indexes.specs.Counts.{words_size}
use Rattle.graph_model.proofs.graph.Graph.places_size.Given as goal

abbrev pub invariant-loop-rest : goal.invariant-loop-rest
invariant-loop-rest l = record {
  sum : l.size + words_size (placed_words l.self (zip l.rest (parts_from l.n l.rest l.parts))) ≡ words_size (placed_words l.self (zip l.places (parts_from 0 l.places l.parts)));
  few : l.size ≤ 128 * l.n;
  places : l.n + length l.rest ≤ 5;
}

abbrev pub decreases-loop-rest : goal.decreases-loop-rest
decreases-loop-rest l = length l.rest
