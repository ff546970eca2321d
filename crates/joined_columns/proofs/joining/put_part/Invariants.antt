use Rattle.std.proofs.Common.{take}
use Rattle.index_spaces.specs.Column.{cell_of}
use Rattle.index_spaces.specs.Run.{WritesPoints}
use Rattle.joined_columns.proofs.joining.put_part.Given as goal

abbrev pub invariant-loop-interval : goal.invariant-loop-interval
invariant-loop-interval l = WritesPoints l.initial.whole l.whole (take l.interval-index l.interval-items) (cell_of l.part)
