use Rattle.std.proofs.Common.{◌≡◌, ◌<◌, length}
use Rattle.conflict_classes.specs.Classes.{AreClassesTo}
use Rattle.conflict_classes.proofs.classes.classes_of_lines.Given as goal

abbrev pub invariant-loop-place : goal.invariant-loop-place
invariant-loop-place l = record {
  limit : l.classing.classes.limit ≡ l.limit;
  heads : 0 < length l.classing.heads.items;
  classes : AreClassesTo l.graph l.classing.classes.limit l.order l.classing.classes.keys.items l.classing.classes.of.items l.classing.classes.sites.items l.classing.classes.begins.items l.place 0;
}
