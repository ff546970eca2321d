use Rattle.std.proofs.Common.{take}
use Rattle.space_classes.specs.Classes.{values}
use Rattle.column_parts.specs.Column.{AreClassParts}
use Rattle.column_parts.proofs.column.class_parts.Given as goal

abbrev pub invariant-loop-k : goal.invariant-loop-k
invariant-loop-k l = AreClassParts l.numbers (values l.spaces) l.classes.labels.items (take l.k-index l.firsts) l.parts.items
