use Rattle.std.proofs.Common.{◌≡◌, ◌<◌, ◌≤◌, ◌+◌, ◌/◌, ◌||◌, ◌∙◌, ap, length, refl, arith}
use Rattle.std.specs.List.{list_any}
use Rattle.std.proofs.lemmas.Option.{slice_get_read}
use Rattle.flow_order.specs.Uses.{stands_in}
use Rattle.flow_order.proofs.AskSteps.{group_below, are_asked}
use Rattle.flow_order.proofs.rows.Rows.asked_by.Goals as goal

pub set_asked-requires-clause-spaces : goal.set_asked-requires-clause-spaces
set_asked-requires-clause-spaces c =
    let cs = c.args.self.now.uses.columns.items in
    let within : c.args.access.column < length cs = (let a = c.requires.column in let b = c.requires.kept.uses.count in omega (arith, a, b)) in
    let at = slice_get_read cs (length cs) c.args.access.column c.index.result.now refl within c.index.ensures in
    λ k x got. ((c.requires.kept.uses.each c.args.access.column c.index.result.now at).each k x got).fits

pub set_asked-requires-clause-ends : goal.set_asked-requires-clause-ends
set_asked-requires-clause-ends c =
    let cs = c.args.self.now.uses.columns.items in
    let within : c.args.access.column < length cs = (let a = c.requires.column in let b = c.requires.kept.uses.count in omega (arith, a, b)) in
    let at = slice_get_read cs (length cs) c.args.access.column c.index.result.now refl within c.index.ensures in
    λ k x got. ((c.requires.kept.uses.each c.args.access.column c.index.result.now at).each k x got).ends_are

pub set_asked-requires-clause-groups : goal.set_asked-requires-clause-groups
set_asked-requires-clause-groups c =
    let cs = c.args.self.now.uses.columns.items in
    let within : c.args.access.column < length cs = (let a = c.requires.column in let b = c.requires.kept.uses.count in omega (arith, a, b)) in
    let at = slice_get_read cs (length cs) c.args.access.column c.index.result.now refl within c.index.ensures in
    λ k x i got h. (
    let n = length c.args.self.now.rows.items in
    let below : i < length c.args.self.now.rows.items = group_below c.args.flow.now c.args.commute n c.args.access c.args.access.column c.index.result.now.classes.items k x i (c.requires.kept.uses.each c.args.access.column c.index.result.now at) got h in
    let some : length c.args.self.now.rows.items ≤ length c.args.flow.now.lines = c.requires.kept.rows.some in
    let size : length c.in_ok-row.row ≡ length c.args.self.now.rows.items / 64 + 1 = c.in_ok-row.ensures.size ∙ c.words.ensures in
    omega arith)

pub returns-clause-asked : goal.returns-clause-asked
returns-clause-asked c =
    let cs = c.args.self.now.uses.columns.items in
    let within : c.args.access.column < length cs = (let a = c.requires.column in let b = c.requires.kept.uses.count in omega (arith, a, b)) in
    let at = slice_get_read cs (length cs) c.args.access.column c.index.result.now refl within c.index.ensures in
    are_asked c.args.flow.now c.args.commute (length c.args.self.now.rows.items) c.args.access c.index.result.now.classes.items c.set_asked.new.row (c.requires.kept.uses.each c.args.access.column c.index.result.now at)
    (λ i. c.set_asked.ensures.bits i ∙ ap (λ b. b || list_any (λ x. stands_in c.args.flow.now c.args.commute c.args.access x i) c.index.result.now.classes.items) (c.in_ok-row.ensures.bits i))
