use Rattle.std.proofs.Common.{◌<◌, ◌+◌, ◌∙◌, ◌++◌, ◌∷◌, [], sym, ap, subst, arith}
use Rattle.std.specs.Prelude.{slice_index}
use Rattle.conflict_classes.specs.Classes.{AreClassesTo}
use Rattle.conflict_classes.proofs.AccessSteps.{no_more}
use Rattle.conflict_classes.proofs.Classing.{classes_more, classes_filled, classes_passed}
use Rattle.conflict_classes.proofs.classes.Classing.add_accesses.Goals as goal

pub loop-k-preserved : goal.loop-k-preserved
loop-k-preserved c =
    let e = c.in_ok-class.ensures in
    let was = c.loop-k.self.classes in
    let g = c.args.graph.now in
    let lines = c.args.order.now in
    let under : slice_index lines c.args.place < c.class_of.new.self.classes.limit = omega (arith, c.if-line-self.false, e.limit, c.loop-k.invariant.limit) in
    record {
      limit = e.limit ∙ c.loop-k.invariant.limit;
      heads = e.heads;
      classes = subst (λ bs. AreClassesTo g c.class_of.new.self.classes.limit lines c.class_of.new.self.classes.keys.items c.push.new.items.items c.push-in-loop-k.new.items.items bs c.args.place (c.loop-k.k + 1)) (sym e.begins)
          (classes_more g c.class_of.new.self.classes.limit lines was.keys.items c.class_of.new.self.classes.keys.items was.of.items was.sites.items was.begins.items c.push.new.items.items c.push-in-loop-k.new.items.items c.args.place c.loop-k.k c.in_ok-class.class c.in-Some.access c.requires.place under
          (sym c.in-Some.ensures) e.kept e.class e.few (c.in_ok-push.ensures.ok ∙ ap (λ xs. xs ++ c.in_ok-class.class ∷ []) e.of) (c.in_ok-push-2.ensures.ok ∙ ap (λ xs. xs ++ c.args.place ∷ []) e.sites) (subst (λ n. AreClassesTo g n lines was.keys.items was.of.items was.sites.items was.begins.items c.args.place c.loop-k.k) (sym e.limit) c.loop-k.invariant.classes));
    }

pub returns-then-line-self-clause-classes : goal.returns-then-line-self-clause-classes
returns-then-line-self-clause-classes c =
    let s = c.args.self.now.classes in
    classes_passed c.args.graph.now s.limit c.args.order.now s.keys.items s.of.items s.sites.items s.begins.items c.args.place (omega (arith, c.if-line-self.true)) c.requires.classes

pub returns-in_default-clause-classes : goal.returns-in_default-clause-classes
returns-in_default-clause-classes c =
    let g = c.args.graph.now in
    let lines = c.args.order.now in
    classes_filled g c.loop-k.self.classes.limit lines c.loop-k.self.classes.keys.items c.loop-k.self.classes.of.items c.loop-k.self.classes.sites.items c.loop-k.self.classes.begins.items c.args.place c.loop-k.k (omega arith)
    (no_more g (slice_index lines c.args.place) c.loop-k.k (sym c.any_access.ensures ∙ c.in_default.is)) c.loop-k.invariant.classes
