use Rattle.std.proofs.Common.{◌≡◌, ◌∙◌, ℕ, ◌<◌, ◌≤◌, inl, inr, List, length, ap, sym, subst, arith}
use Rattle.std.specs.Prelude.{[], ◌∷◌, Contains, IfSome, Vec}
use Rattle.std.specs.Borrow.{Bor}
use Rattle.std.specs.Global.{Global}
use Rattle.std.proofs.lemmas.List.{length-map}
use Rattle.std.proofs.lemmas.Result.{IfOk-weaker}
use Rattle.space_classes.specs.Classes.{values, AreClasses, AreFirsts}
use Rattle.column_pieces.specs.declared.pieces.TheConstants.{MAX_COLUMN_PIECES}
use Rattle.column_parts.specs.declared.parts.Part.{Part}
use Rattle.column_parts.specs.declared.parts.Part.TheVariants.{Declared}
use Rattle.column_parts.specs.Column.{spaces_at, AreParts, AreClassParts, HasWideClass}
use Rattle.column_parts.proofs.Parting.{own_declared, whole_parts, wide_class, first_known, many_apart, class_parts}
use Rattle.column_parts.proofs.column.column_parts.Goals as goal

pub spaces_at-requires : goal.spaces_at-requires
spaces_at-requires c = λ s k. own_declared c.args.graph.now c.lines.ensures.is_graph c.args.column s (c.requires.accessed.each s k)

pub returns-then-len : goal.returns-then-len
returns-then-len c =
    let g = c.args.graph.now in
    let numbers = c.args.numbers.now in
    let labels = c.in_ok-classes.classes.labels.items in
    let firsts = c.in_ok-firsts.firsts.items in
    let is : values c.deref.result.now ≡ spaces_at g numbers = ap values c.deref.ensures.value ∙ c.in_ok-spaces.ensures in
    let classes : AreClasses (spaces_at g numbers) labels = subst (λ s. AreClasses s labels) is c.in_ok-classes.ensures.classes in
    let are : AreFirsts labels MAX_COLUMN_PIECES firsts = subst (λ l. AreFirsts l MAX_COLUMN_PIECES firsts) c.deref-2.ensures.value c.in_ok-firsts.ensures in
    let many : 64 < length firsts = omega (arith, c.if-len.true, c.len.ensures) in
    IfOk-weaker c.only.result (λ (v : Vec Part Global). v.items ≡ Declared c.args.whole ∷ []) (λ (v : Vec Part Global). AreParts g c.args.column v.items)
    (λ v made. whole_parts g c.args.column c.args.whole v.items c.lines.ensures.is_graph c.requires.whole (inl (many_apart g c.lines.ensures.is_graph c.args.column numbers c.requires.accessed labels classes firsts are many)) made) c.only.ensures

pub class_parts-requires-clause-firsts : goal.class_parts-requires-clause-firsts
class_parts-requires-clause-firsts c = λ k among.
    let g = c.args.graph.now in
    let numbers = c.args.numbers.now in
    let labels = c.in_ok-classes.classes.labels.items in
    let firsts = c.in_ok-firsts.firsts.items in
    let is : values c.deref.result.now ≡ spaces_at g numbers = ap values c.deref.ensures.value ∙ c.in_ok-spaces.ensures in
    let classes : AreClasses (spaces_at g numbers) labels = subst (λ s. AreClasses s labels) is c.in_ok-classes.ensures.classes in
    let are : AreFirsts labels MAX_COLUMN_PIECES firsts = subst (λ l. AreFirsts l MAX_COLUMN_PIECES firsts) c.deref-2.ensures.value c.in_ok-firsts.ensures in
    let is_again : values c.deref-3.result.now ≡ spaces_at g numbers = ap values c.deref-3.ensures.value ∙ c.in_ok-spaces.ensures in
    let low : k < length (spaces_at g numbers) = first_known g c.lines.ensures.is_graph c.args.column numbers c.requires.accessed labels classes firsts are k (subst (λ xs. Contains xs k) c.deref-4.ensures.value among) in
    let count : length (values c.deref-3.result.now) ≡ length (spaces_at g numbers) = ap length is_again in
    let counted : length (values c.deref-3.result.now) ≡ length c.deref-3.result.now = length-map c.deref-3.result.now (λ (s : Bor (List (ℕ × ℕ))). s.now) in
    omega (arith, low, count, counted)

pub returns-in-Some : goal.returns-in-Some
returns-in-Some c =
    let g = c.args.graph.now in
    let numbers = c.args.numbers.now in
    let labels = c.in_ok-classes.classes.labels.items in
    let firsts = c.in_ok-firsts.firsts.items in
    let is : values c.deref.result.now ≡ spaces_at g numbers = ap values c.deref.ensures.value ∙ c.in_ok-spaces.ensures in
    let classes : AreClasses (spaces_at g numbers) labels = subst (λ s. AreClasses s labels) is c.in_ok-classes.ensures.classes in
    let are : AreFirsts labels MAX_COLUMN_PIECES firsts = subst (λ l. AreFirsts l MAX_COLUMN_PIECES firsts) c.deref-2.ensures.value c.in_ok-firsts.ensures in
    let is_again : values c.deref-3.result.now ≡ spaces_at g numbers = ap values c.deref-3.ensures.value ∙ c.in_ok-spaces.ensures in
    let few : length firsts ≤ 64 = omega (arith, c.if-len.false, c.len.ensures) in
    let some = subst (λ o. IfSome o (λ (v : Vec Part Global). AreClassParts numbers (values c.deref-3.result.now) labels c.deref-4.result.now v.items)) c.in-Some.is c.in_ok-parts.ensures.some in
    class_parts g c.lines.ensures.is_graph c.args.column numbers c.requires.accessed labels classes firsts are c.in-Some.parts.items
    (subst (λ s. AreClassParts numbers s labels firsts c.in-Some.parts.items) is_again (subst (λ xs. AreClassParts numbers (values c.deref-3.result.now) labels xs c.in-Some.parts.items) c.deref-4.ensures.value some)) few

pub returns : goal.returns
returns c =
    let g = c.args.graph.now in
    let numbers = c.args.numbers.now in
    let labels = c.in_ok-classes.classes.labels.items in
    let is : values c.deref.result.now ≡ spaces_at g numbers = ap values c.deref.ensures.value ∙ c.in_ok-spaces.ensures in
    let classes : AreClasses (spaces_at g numbers) labels = subst (λ s. AreClasses s labels) is c.in_ok-classes.ensures.classes in
    let is_again : values c.deref-3.result.now ≡ spaces_at g numbers = ap values c.deref-3.ensures.value ∙ c.in_ok-spaces.ensures in
    let wide = subst (λ s. HasWideClass s labels) is_again (c.in_ok-parts.ensures.none c.in-None.is) in
    IfOk-weaker c.only-in-None.result (λ (v : Vec Part Global). v.items ≡ Declared c.args.whole ∷ []) (λ (v : Vec Part Global). AreParts g c.args.column v.items)
    (λ v made. whole_parts g c.args.column c.args.whole v.items c.lines.ensures.is_graph c.requires.whole (inr (wide_class g c.lines.ensures.is_graph c.args.column numbers c.requires.accessed labels classes wide)) made) c.only-in-None.ensures
