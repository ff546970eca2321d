use Rattle.std.proofs.Common.{◌++◌, ◌∷◌, [], refl, ◌∙◌, ap}
use Rattle.flow_order.specs.Uses.{begins}
use Rattle.flow_order.proofs.UseSteps.{joined}
use Rattle.flow_order.proofs.uses.ColumnUses.add.Goals as goal

pub returns-in_ok-add-in-Some : goal.returns-in_ok-add-in-Some
returns-in_ok-add-in-Some c =
    let found = c.in-Some.ensures.class in
    joined c.args.commute c.args.self.now.classes.items _ c.args.access c.args.space.now c.args.line c.in-Some.place c.args.reaching.now found.0 c.index_mut.result.now c.add.new.self found.1 found.2 c.in-Some.ensures.within c.index_mut.ensures.value c.in_ok-add-in-Some.ensures refl

pub returns-in_ok-push-in-None : goal.returns-in_ok-push-in-None
returns-in_ok-push-in-None c =
    let old = c.args.self.now.classes.items in
    begins c.in_ok-class-in-None.class.ends c.in_ok-class-in-None.ensures.ends c.in-None.ensures.class (c.in_ok-push-in-None.ensures.ok ∙ ap (λ x. old ++ x ∷ []) c.in_ok-class-in-None.ensures.class)
