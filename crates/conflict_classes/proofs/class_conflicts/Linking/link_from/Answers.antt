use Rattle.std.proofs.Common.{length, arith}
use Rattle.std.proofs.lemmas.Option.{slice_get-get_or}
use Rattle.conflict_classes.proofs.Nearness.{linked_more, linked_far, linked_end, grown_more}
use Rattle.conflict_classes.proofs.class_conflicts.Linking.link_from.Goals as goal

pub returns-clause-linked : goal.returns-clause-linked
returns-clause-linked c h = linked_end c.args.graph.now c.args.keys.now c.args.spots.now c.loop-at.self.near.items c.args.place c.loop-at.at (omega arith) c.loop-at.invariant.linked

pub loop-at-preserved : goal.loop-at-preserved
loop-at-preserved c =
    let g = c.args.graph.now in
    let keys = c.args.keys.now in
    let spots = c.args.spots.now in
    record {
      grown = grown_more (length keys) c.args.self.now.near.items c.loop-at.self.near.items c.link.new.self.near.items c.loop-at.invariant.grown c.in_ok-link.ensures.grown;
      linked = linked_more g keys spots c.loop-at.self.near.items c.link.new.self.near.items (length keys) c.args.place c.loop-at.at _ _
          (slice_get-get_or spots c.args.place (record { column = 0; first = 0; last = 0; class = 0 }) c.requires.place) (slice_get-get_or spots c.loop-at.at (record { column = 0; first = 0; last = 0; class = 0 }) c.loop-at-test.true)
          c.in_ok-link.ensures.grown c.loop-at.invariant.linked c.in_ok-link.ensures.linked;
    }

pub returns-then-is_far-clause-linked : goal.returns-then-is_far-clause-linked
returns-then-is_far-clause-linked c h =
    linked_far c.args.graph.now c.args.keys.now c.args.spots.now c.loop-at.self.near.items (length c.args.keys.now) c.args.place c.loop-at.at _ _ c.requires.spots c.requires.ascending
    (slice_get-get_or c.args.spots.now c.args.place (record { column = 0; first = 0; last = 0; class = 0 }) c.requires.place) (slice_get-get_or c.args.spots.now c.loop-at.at (record { column = 0; first = 0; last = 0; class = 0 }) c.loop-at-test.true)
    (omega (arith, c.loop-at.auto.at)) (c.is_far.ensures c.if-is_far.true) c.loop-at.invariant.linked
