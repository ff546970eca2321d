use Rattle.std.proofs.Common.{get_or, sym, subst}
use Rattle.std.specs.Prelude.{IfSome}
use Rattle.std.proofs.lemmas.List.{take_more}
use Rattle.std.proofs.lemmas.List.Elements.{Contains-get_or}
use Rattle.space_classes.specs.Classes.{values}
use Rattle.column_parts.specs.Column.{AreClassParts, IsClassPart}
use Rattle.column_parts.proofs.Parting.{one_class_part}
use Rattle.column_parts.proofs.column.class_parts.Goals as goal

pub class_part-requires-clause-place : goal.class_part-requires-clause-place
class_part-requires-clause-place c = c.requires.firsts (get_or c.args.firsts.now c.loop-k.k-index 0) (Contains-get_or c.args.firsts.now c.loop-k.k-index 0 c.loop-k-test.true)

pub loop-k-preserved : goal.loop-k-preserved
loop-k-preserved c =
    let numbers = c.args.numbers.now in
    let spaces = values c.args.spaces.now in
    let labels = c.args.classes.now.labels.items in
    let firsts = c.args.firsts.now in
    let k = get_or firsts c.loop-k.k-index 0 in
    let part = subst (λ o. IfSome o (IsClassPart numbers spaces labels k)) c.in-Some.is c.in_ok-part.ensures.some in
    subst (λ xs. AreClassParts numbers spaces labels xs c.push.new.items.items) (sym (take_more firsts c.loop-k.k-index 0 c.loop-k-test.true))
    (subst (AreClassParts numbers spaces labels _) (sym c.in_ok-push-in-Some.ensures.ok) (one_class_part numbers spaces labels _ c.loop-k.parts.items k c.in-Some.part c.loop-k.invariant part))
