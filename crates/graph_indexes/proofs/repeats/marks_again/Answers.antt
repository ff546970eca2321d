use Rattle.std.proofs.Common.{◌≡◌, ℕ, ◌<◌, Bool, false, List, length, get_or, sym, ◌∙◌, ap, subst}
use Rattle.std.specs.Prelude.{Some, IfSome, is_some}
use Rattle.std.proofs.lemmas.Bool.{ltb-true}
use Rattle.graph_indexes.proofs.MarkLaws.{again_set}
use Rattle.graph_indexes.proofs.repeats.marks_again.Goals as goal

-- a value that is read and is false
by_value : (b : Bool) → b ≡ false → (marks : List Bool) (n : ℕ) → b ≡ get_or marks n b → false ≡ get_or marks n false
by_value b e marks n h = subst (λ x. x ≡ get_or marks n x) e h

pub returns-in-Some-false : goal.returns-in-Some-false
returns-in-Some-false c =
    let below : c.args.number < length c.args.marks.now = ltb-true c.args.number (length c.args.marks.now) (sym c.get.ensures.lookup.0 ∙ ap is_some c.in-Some-false.is) in
    let read : c.in-Some-false.field-0.now ≡ get_or c.args.marks.now c.args.number c.in-Some-false.field-0.now =
    subst (λ o. IfSome o (λ x. x.now ≡ get_or c.args.marks.now c.args.number x.now)) c.in-Some-false.is c.get.ensures.lookup.1 in
    let unset : false ≡ get_or c.args.marks.now c.args.number false = by_value _ c.in-Some-false.field-0-test c.args.marks.now c.args.number read in
    again_set c.args.marks.now c.args.number c.args.others.now below (sym unset)
