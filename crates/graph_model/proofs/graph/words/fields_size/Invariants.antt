use Rattle.std.proofs.Common.{◌≡◌, ◌+◌, ◌*◌, ◌≤◌, length, take}
use Rattle.std.specs.Prelude.{sum_by}
use Rattle.graph_model.proofs.graph.words.fields_size.Given as goal

abbrev pub invariant-loop-name : goal.invariant-loop-name
invariant-loop-name l = record {
  sum : l.size ≡ sum_by (λ w. length w + 1) (take l.name-index l.names);
  few : l.size ≤ 64 * l.name-index;
}
