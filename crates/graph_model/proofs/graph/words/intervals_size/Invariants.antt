use Rattle.std.proofs.Common.{◌≡◌, ◌+◌, ◌*◌, ◌≤◌, ℕ, length, take}
use Rattle.std.specs.Prelude.{sum_by}
use Rattle.graph_terms.specs.Spelling.{interval_word}
use Rattle.graph_model.proofs.graph.words.intervals_size.Given as goal

abbrev pub invariant-loop-interval : goal.invariant-loop-interval
invariant-loop-interval l = record {
  sum : l.size ≡ sum_by (λ (i : ℕ × ℕ). length (interval_word i) + 1) (take l.interval-index l.interval-items);
  few : l.size ≤ 43 * l.interval-index;
}
