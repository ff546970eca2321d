use Rattle.std.proofs.Common.{length, sym, ◌∙◌, subst}
use Rattle.std.proofs.lemmas.Bool.{true≢false}
use Rattle.std.proofs.lemmas.Option.{slice_get-get_or, slice_get_within}
use Rattle.conflict_classes.specs.Spots.{AreGrown}
use Rattle.conflict_classes.proofs.AccessSteps.{no_access}
use Rattle.conflict_classes.proofs.Nearness.{grown_more, not_linked}
use Rattle.conflict_classes.proofs.class_conflicts.Linking.link.Goals as goal

pub returns-in_ok-add-2-clause-grown : goal.returns-in_ok-add-2-clause-grown
returns-in_ok-add-2-clause-grown c =
    let a = c.args.self.now.near.items in
    let b = c.add.new.self.near.items in
    let n = length c.args.keys.now in
    grown_more n a b c.add-then-clash.new.self.near.items (subst (λ k. AreGrown k a b) c.requires.size c.in_ok-add.ensures.grown)
    (subst (λ k. AreGrown k b c.add-then-clash.new.self.near.items) (c.in_ok-add.ensures.grown.size ∙ c.requires.size) c.in_ok-add-2.ensures.grown)

pub returns-in_ok-add-2-clause-linked : goal.returns-in_ok-add-2-clause-linked
returns-in_ok-add-2-clause-linked c a b ka kb conflict = (c.in_ok-add-2.ensures.grown.kept c.args.spot.class c.args.other.class c.in_ok-add.ensures.added, c.in_ok-add-2.ensures.added)

pub returns-else-clash-clause-linked : goal.returns-else-clash-clause-linked
returns-else-clash-clause-linked c =
    let keys = c.args.keys.now in
    let s = c.requires.spot in
    let t = c.requires.other in
    not_linked c.args.graph.now keys c.args.self.now.near.items c.args.spot c.args.other _ _ (slice_get-get_or keys c.args.spot.class no_access (slice_get_within keys c.args.spot.class s.key s.is_key))
    (slice_get-get_or keys c.args.other.class no_access (slice_get_within keys c.args.other.class t.key t.is_key)) (λ k. true≢false (sym (c.clash.ensures.1 k) ∙ c.if-clash.false))
