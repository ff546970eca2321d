use Rattle.std.proofs.Common.{◌≡◌, ◌+◌, ◌<◌, length, map, refl, sym, ◌∙◌, ap, subst, arith}
use Rattle.std.specs.Prelude.{Some, slice_get}
use Rattle.std.proofs.lemmas.Option.{slice_get_read}
use Rattle.std.proofs.lemmas.List.{length-map}
use Rattle.graph_terms.specs.declared.decl.ColumnInfo.{ColumnInfo}
use Rattle.graph_terms.specs.Graph.{columns}
use Rattle.column_parts.specs.Accessed.{AreAccessed}
use Rattle.column_parts.proofs.ColumnSpaces.{space_got}
use Rattle.column_parts.proofs.Noting.{are_accessed}
use Rattle.column_parts.proofs.Parting.{ArePartsTo, one_more_parts, all_found}
use Rattle.column_parts.proofs.found.find_parts.Goals as goal

pub parts_of-requires-clause-noted : goal.parts_of-requires-clause-noted
parts_of-requires-clause-noted c =
    let g = c.args.graph.now in
    let noted = c.in_ok-noted.noted.items in
    let below : c.loop-column.column < length (columns g) = omega (arith, c.loop-column-test.true, c.loop-column.auto.column-end, c.columns-column-end.ensures.number) in
    let at : slice_get noted c.loop-column.column ≡ Some c.index-own.result.now = slice_get_read noted (length noted) c.loop-column.column c.index-own.result.now refl (omega (arith, below, c.in_ok-noted.ensures.count)) c.index-own.ensures in
    subst (AreAccessed g c.loop-column.column) (sym c.deref.ensures.value) (are_accessed g noted c.loop-column.column c.index-own.result.now c.in_ok-noted.ensures at)

pub parts_of-requires-clause-whole : goal.parts_of-requires-clause-whole
parts_of-requires-clause-whole c =
    let g = c.args.graph.now in
    let wholes = c.in_ok-wholes.wholes.items in
    let count : length wholes ≡ length (columns g) = ap length c.in_ok-wholes.ensures ∙ length-map (columns g) (λ (x : ColumnInfo). x.space) in
    let below : c.loop-column.column < length (columns g) = omega (arith, c.loop-column-test.true, c.loop-column.auto.column-end, c.columns-column-end.ensures.number) in
    space_got g wholes c.loop-column.column c.index.result.now c.in_ok-wholes.ensures below
    (slice_get_read wholes (length wholes) c.loop-column.column c.index.result.now refl (omega (arith, below, count)) c.index.ensures)

pub loop-column-preserved : goal.loop-column-preserved
loop-column-preserved c =
    let g = c.args.graph.now in
    subst (λ xs. ArePartsTo g xs (c.loop-column.column + 1)) (sym c.in_ok-push.ensures.ok) (one_more_parts g c.loop-column.lists.items c.loop-column.column c.in_ok-parts_of.field-0 c.loop-column.invariant c.in_ok-parts_of.ensures)

pub returns-clause-found : goal.returns-clause-found
returns-clause-found c =
    let g = c.args.graph.now in
    let all : c.loop-column.column ≡ length (columns g) = omega (arith, c.loop-column.auto.column-end, c.loop-column-test.false, c.columns-column-end.ensures.number) in
    all_found g c.loop-column.lists.items c.lines.ensures.is_graph (subst (ArePartsTo g c.loop-column.lists.items) all c.loop-column.invariant)
