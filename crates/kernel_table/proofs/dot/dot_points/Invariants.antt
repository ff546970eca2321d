use Rattle.std.proofs.Common.{◌≡◌, ◌*◌, take}
use Rattle.index_spaces.specs.Space.{points}
use Rattle.index_spaces.specs.Column.{cell_of}
use Rattle.graph_meaning.specs.Effect.{wrapped_sum}
use Rattle.kernel_table.proofs.dot.dot_points.Given as goal

abbrev pub invariant-loop-interval : goal.invariant-loop-interval
invariant-loop-interval l = l.so_far ≡ wrapped_sum (λ p. cell_of l.x p * cell_of l.y p) (points (take l.interval-index l.interval-items))
