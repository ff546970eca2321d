use Rattle.std.proofs.Common.{◌≡◌, take}
use Rattle.space_classes.specs.Classes.{label}
use Rattle.space_classes.specs.Points.{class_intervals}
use Rattle.space_classes.proofs.points.intervals_of.Given as goal

abbrev pub invariant-loop-span : goal.invariant-loop-span
invariant-loop-span l = l.intervals.items ≡ class_intervals l.labels (label l.labels l.k) (take l.span-index l.spans)
