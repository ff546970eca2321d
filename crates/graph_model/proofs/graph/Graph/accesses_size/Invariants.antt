use Rattle.std.proofs.Common.{◌≡◌, ◌*◌, ◌≤◌, take}
use Rattle.std.specs.Prelude.{sum_by}
use Rattle.graph_terms.specs.declared.verb.Access.{Access}
use Rattle.graph_terms.specs.Spelling.{access_words}
use Rattle.graph_indexes.specs.Counts.{words_size}
use Rattle.graph_model.proofs.graph.Graph.accesses_size.Given as goal

abbrev pub invariant-loop-access : goal.invariant-loop-access
invariant-loop-access l = record {
  sum : l.size ≡ sum_by (λ (a : Access). words_size (access_words l.self a)) (take l.access-index l.accesses);
  few : l.size ≤ 200 * l.access-index;
}
