use Rattle.std.proofs.Common.{◌≡◌, take, true}
use Rattle.index_spaces.specs.Space.{points}
use Rattle.index_spaces.specs.Column.{cell_of}
use Rattle.graph_meaning.specs.Effect.{all_within}
use Rattle.kernel_table.proofs.expect.points_within.Given as goal

abbrev pub invariant-loop-interval : goal.invariant-loop-interval
invariant-loop-interval l = all_within (cell_of l.x) l.low l.high (points (take l.interval-index l.interval-items)) ≡ true
