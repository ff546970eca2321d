use Rattle.std.proofs.Common.{◌≡◌, sym, ◌∙◌, ap, subst}
use Rattle.std.specs.Prelude.{[], Some, slice_get}
use Rattle.std.specs.Option.{option_map_or}
use Rattle.std.proofs.lemmas.Bool.{eqb-true}
use Rattle.graph_terms.specs.declared.decl.ColumnInfo.{ColumnInfo}
use Rattle.graph_terms.specs.Graph.{GraphValue, columns, space_at, column_space}
use Rattle.graph_indexes.specs.Tables.{TablesValue}
use Rattle.graph_model.proofs.graph.Graph.is_over.Goals as goal

pub returns : goal.returns
returns c same =
    let g : GraphValue = record { format = c.self.inside.format; decls = c.self.inside.decls.items; lines = c.self.inside.lines.items } in
    let info : ColumnInfo = c.column.result.now in
    let is : slice_get (columns g) c.args.c ≡ Some info = sym (ap (λ (t : TablesValue). slice_get t.column_infos c.args.c) c.self.invariant.tables) ∙ c.column.ensures in
    subst (λ (x : GraphValue). space_at x c.args.s ≡ column_space x c.args.c) c.self.view_is
    (ap (space_at g) (sym (eqb-true info.space c.args.s same)) ∙ sym (ap (λ o. option_map_or (λ (x : ColumnInfo). space_at g x.space) o []) is))
