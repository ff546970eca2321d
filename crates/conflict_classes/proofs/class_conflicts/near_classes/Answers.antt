use Rattle.std.proofs.Common.{length, arith, sym, subst, ◌∙◌}
use Rattle.std.specs.Prelude.{Vec, IfSome}
use Rattle.std.specs.Global.{Global}
use Rattle.conflict_classes.specs.declared.class_conflicts.Spot.{Spot}
use Rattle.conflict_classes.specs.Spots.{AreSpots, IsLinkedTo}
use Rattle.conflict_classes.proofs.Nearness.{spots_moved, near_all, linked_next}
use Rattle.conflict_classes.proofs.class_conflicts.near_classes.Goals as goal

pub link_from-requires-clause-spots : goal.link_from-requires-clause-spots
link_from-requires-clause-spots c =
    let g = c.args.graph.now in
    let keys = c.args.keys.now in
    let are = subst (λ o. IfSome o (λ (v : Vec Spot Global). AreSpots g keys (length keys) v.items)) c.in-Some.is c.in_ok-spots.ensures in
    subst (λ xs. AreSpots g keys (length keys) xs) (sym c.as_slice-in-loop-place.ensures.value)
    (spots_moved g keys (length keys) c.in-Some.spots.items c.sort_unstable_by_key.new.self.items c.sort_unstable_by_key.ensures.permutation are)

pub loop-place-init : goal.loop-place-init
loop-place-init c = record {
  size = c.in_ok-empty_lists.ensures.size;
  known = λ a b h. absurd (c.in_ok-empty_lists.ensures.none a b h);
  linked = λ i j s t low up hs ht. absurd (omega arith);
}

pub loop-place-preserved : goal.loop-place-preserved
loop-place-preserved c =
    let g = c.args.graph.now in
    let keys = c.args.keys.now in
    let a = c.loop-place.linking.near.items in
    let b = c.link_from.new.self.near.items in
    let grown = c.in_ok-link_from.ensures.grown in
    record {
      size = grown.size ∙ c.loop-place.invariant.size;
      known = grown.known c.loop-place.invariant.known;
      linked = linked_next g keys c.sort_unstable_by_key.new.self.items a b (length keys) c.loop-place.place grown c.loop-place.invariant.linked
          (λ q. subst (λ xs. IsLinkedTo g keys xs b c.loop-place.place q) c.as_slice-in-loop-place.ensures.value (c.in_ok-link_from.ensures.linked c.if-not-branch.false q));
    }

pub returns : goal.returns
returns c =
    let g = c.args.graph.now in
    let keys = c.args.keys.now in
    let are = subst (λ o. IfSome o (λ (v : Vec Spot Global). AreSpots g keys (length keys) v.items)) c.in-Some.is c.in_ok-spots.ensures in
    near_all g keys c.sort_unstable_by_key.new.self.items c.loop-place.linking.near.items c.loop-place.place
    (spots_moved g keys (length keys) c.in-Some.spots.items c.sort_unstable_by_key.new.self.items c.sort_unstable_by_key.ensures.permutation are) (omega arith) c.loop-place.invariant.size c.loop-place.invariant.known c.loop-place.invariant.linked
