use Rattle.std.proofs.Common.{◌≤◌, length, drop}
use Rattle.joined_columns.proofs.Putting.{HaveCellsOf}
use Rattle.joined_columns.proofs.joining.joined_columns.Given as goal

abbrev pub invariant-loop-left : goal.invariant-loop-left
invariant-loop-left l = record {
  left : l.left ≤ length l.parts;
  have : HaveCellsOf l.graph l.unions (drop l.left l.pieces) (drop l.left l.parts) l.joined.items;
}

abbrev pub decreases-loop-left : goal.decreases-loop-left
decreases-loop-left l = l.left
