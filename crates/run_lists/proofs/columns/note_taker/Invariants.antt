use Rattle.std.proofs.Common.{◌≡◌, length, take}
use Rattle.graph_terms.specs.Access.{accesses}
use Rattle.graph_terms.specs.Graph.{columns}
use Rattle.run_lists.specs.Columns.{takers_with}
use Rattle.run_lists.proofs.TakerFacts.{changed_in}
use Rattle.run_lists.proofs.columns.note_taker.Given as goal

abbrev pub invariant-loop-k : goal.invariant-loop-k
invariant-loop-k l = record {
  each : length l.takers.items ≡ length (columns l.graph);
  so_far : l.takers.items ≡ takers_with l.initial.takers.items l.line (changed_in (take l.k (accesses l.graph l.line)));
}
