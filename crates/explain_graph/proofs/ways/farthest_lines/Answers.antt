use Rattle.std.proofs.Common.{◌+◌, ◌<◌, length, refl, sym, ◌∙◌, ap, subst}
use Rattle.std.proofs.lemmas.List.{with_items_is}
use Rattle.explain_graph.specs.Ways.{AreFarthest}
use Rattle.explain_graph.proofs.FarthestFacts.{start_below, farthest_more, farthest_skip}
use Rattle.explain_graph.proofs.ways.farthest_lines.Goals as goal
use Rattle.explain_graph.proofs.ways.farthest_lines.Goals.{in-Some, in_default}

pub note-requires : goal.note-requires
note-requires c =
    subst (λ n. c.in-Some.reach.start < n) (sym (ap length c.deref_mut.ensures.value ∙ c.loop-reach.invariant.size)) (start_below c.requires.0 c.args.reaches.now c.requires.1 _ c.loop-reach.reach-index c.in-Some.reach c.in-Some.is refl)

pub loop-reach-preserved : goal.loop-reach-preserved
loop-reach-preserved c = elim c.match-reach.branch [
  | in-Some w ↦ (
      let n = w.note.ensures in
      rw w.farthest-is (subst (AreFarthest c.args.reaches.now (c.loop-reach.reach-index + 1)) (sym (with_items_is c.loop-reach.farthest w.note.new.farthest (n.size ∙ w.deref_mut.ensures.len))) (farthest_more c.requires.0 c.args.reaches.now c.loop-reach.reach-index w.deref_mut.result.now w.note.new.farthest w.in-Some.reach c.requires.1 w.in-Some.is
      (subst (AreFarthest c.args.reaches.now c.loop-reach.reach-index) (sym w.deref_mut.ensures.value) c.loop-reach.invariant) n.size n.start n.noted n.others)))
  | in_default w ↦ rw w.farthest-is (farthest_skip c.args.reaches.now c.loop-reach.reach-index c.loop-reach.farthest.items w.in_default.is c.loop-reach.invariant)
]
