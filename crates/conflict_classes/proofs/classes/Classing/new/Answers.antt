use Rattle.std.proofs.Common.{ap, ◌∙◌, ◌++◌, ◌∷◌, []}
use Rattle.conflict_classes.proofs.Classing.{classes_none}
use Rattle.conflict_classes.proofs.classes.Classing.new.Goals as goal

pub returns-clause-classes : goal.returns-clause-classes
returns-clause-classes c g lines =
    classes_none g c.args.limit lines c.new.result.items c.in_ok-with_room.field-0.items c.in_ok-with_room-2.field-0.items c.push.new.items.items c.new.ensures.items c.in_ok-with_room.ensures.items c.in_ok-with_room-2.ensures.items (c.in_ok-push.ensures.ok ∙ ap (λ xs. xs ++ 0 ∷ []) c.in_ok-begins.ensures.items)
