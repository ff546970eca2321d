use Rattle.std.proofs.Common.{take}
use Rattle.index_spaces.specs.Column.{cell_of}
use Rattle.index_spaces.specs.Run.{WritesPoints}
use Rattle.line_effects.proofs.copies.copy_points.Given as goal

abbrev pub invariant-loop-interval : goal.invariant-loop-interval
invariant-loop-interval l = WritesPoints l.initial.to l.to (take l.interval-index l.interval-items) (cell_of l.from)
