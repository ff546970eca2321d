use Rattle.std.proofs.Common.{length, ap, arith}
use Rattle.conflict_classes.proofs.lookups.Table.new.Goals as goal

pub near_classes-requires : goal.near_classes-requires
near_classes-requires c = let e = ap length c.as_slice.ensures.value in omega (arith, e, c.in_ok-classes.ensures.classes.few, c.in_ok-classes.ensures.classes.count, c.requires.placed.count, c.lines.ensures.number, c.lines.ensures.few)
