use Rattle.std.proofs.Common.{◌≡◌, take}
use Rattle.space_classes.specs.Classes.{values}
use Rattle.column_parts.specs.Column.{spaces_at}
use Rattle.column_parts.proofs.column.spaces_at.Given as goal

abbrev pub invariant-loop-s : goal.invariant-loop-s
invariant-loop-s l = values l.spaces.items ≡ spaces_at l.graph (take l.s-index l.numbers)
