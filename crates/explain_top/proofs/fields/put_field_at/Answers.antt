use Rattle.std.proofs.Common.{◌∙◌, ap}
use Rattle.explain_text.proofs.Public.{puts_as}
use Rattle.std.specs.Prelude.{slice_get}
use Rattle.graph_model.specs.Columns.{all_columns}
use Rattle.explain_top.specs.Fields.{field_in}
use Rattle.explain_top.proofs.FieldFacts.{named_field}
use Rattle.explain_top.proofs.fields.put_field_at.Goals as goal

pub returns : goal.returns
returns c =
    let owner = c.args.owner.now in
    let o = slice_get (all_columns c.args.graph.now) c.args.column in
    let name = c.any_column_name-of in
    let named = named_field owner o name.result.0 name.result.1 name.ensures.owner name.ensures.field in
    puts_as c.put_field.result _ _ _ _ (ap (λ w. field_in owner w c.bytes-2.result.now) c.bytes.ensures.bytes ∙ (ap (field_in owner name.result.0) c.bytes-2.ensures.bytes ∙ named)) c.put_field.ensures
