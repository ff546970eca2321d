use Rattle.std.proofs.Common.{◌≡◌, ◌<◌, ◌≤◌, length, ◌∙◌, ap, arith}
use Rattle.std.specs.Prelude.{flat_map}
use Rattle.graph_model.specs.Columns.{all_columns}
use Rattle.explain_top.specs.Fields.{field_of}
use Rattle.explain_top.proofs.ColumnFacts.{columns_size, all_taken}
use Rattle.explain_top.proofs.FieldFacts.{field_more}
use Rattle.explain_top.proofs.fields.fields.Goals as goal

pub loop-column-preserved : goal.loop-column-preserved
loop-column-preserved c =
    let cs = all_columns c.args.graph.now in
    let all = c.all_columns-column-end.ensures.number in
    let size = columns_size c.args.graph.now in
    let test = c.loop-column-test.true in
    let below : c.loop-column.column < length cs = omega (arith, all, size, test) in
    field_more c.args.owner.now cs c.loop-column.column c.loop-column.text c.put_field_at.new.text below c.loop-column.invariant c.in_ok-put_field_at.ensures

pub returns : goal.returns
returns c =
    let cs = all_columns c.args.graph.now in
    let all = c.all_columns-column-end.ensures.number in
    let size = columns_size c.args.graph.now in
    let test = c.loop-column-test.false in
    let past : length cs ≤ c.loop-column.column = omega (arith, all, size, test) in
    c.loop-column.invariant ∙ ap (flat_map (field_of c.args.owner.now)) (all_taken cs c.loop-column.column past)
