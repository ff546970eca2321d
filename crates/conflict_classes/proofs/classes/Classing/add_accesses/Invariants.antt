use Rattle.std.proofs.Common.{◌≡◌, ◌<◌, length}
use Rattle.conflict_classes.specs.Classes.{AreClassesTo}
use Rattle.conflict_classes.proofs.classes.Classing.add_accesses.Given as goal

abbrev pub invariant-loop-k : goal.invariant-loop-k
invariant-loop-k l = record {
  limit : l.self.classes.limit ≡ l.initial.self.classes.limit;
  heads : 0 < length l.self.heads.items;
  classes : AreClassesTo l.graph l.self.classes.limit l.order l.self.classes.keys.items l.self.classes.of.items l.self.classes.sites.items l.self.classes.begins.items l.place l.k;
}
