use Rattle.std.proofs.Common.{length}
use Rattle.conflict_classes.specs.Spots.{AreGrown, IsLinkedTo}
use Rattle.conflict_classes.proofs.class_conflicts.Linking.link_from.Given as goal

abbrev pub invariant-loop-at : goal.invariant-loop-at
invariant-loop-at l = record {
  grown : AreGrown (length l.keys) l.initial.self.near.items l.self.near.items;
  linked : IsLinkedTo l.graph l.keys l.spots l.self.near.items l.place l.at;
}
