use Rattle.std.proofs.Common.{◌≡◌, ◌+◌, ◌<◌, ◌≤◌, List, ℕ, length, refl, sym, ◌∙◌, ap, subst, arith}
use Rattle.std.specs.Prelude.{Some, position, slice_get}
use Rattle.std.specs.Str.{bytes_eq}
use Rattle.std.proofs.lemmas.Option.{slice_get_read}
use Rattle.graph_terms.specs.Graph.{GraphValue, columns_of, columns, data_columns}
use Rattle.graph_terms.specs.Names.{is_inst_named, is_column_named}
use Rattle.graph_indexes.specs.Tables.{TablesValue}
use Rattle.graph_model.proofs.TableLaws.{length-firsts}
use Rattle.graph_model.proofs.ColumnLaws.{first_below, column_found}
use Rattle.graph_model.proofs.graph.Graph.column_of.Goals as goal
use Rattle.graph_model.proofs.graph.Graph.column_of.Goals.{After-first_column}

-- the graph as it stands
abbrev of : After-first_column → GraphValue
of c = record { format = c.self.inside.format; decls = c.self.inside.decls.items; lines = c.self.inside.lines.items }

-- the column that is found
found : (c : After-first_column) → (position (is_column_named c.args.inst.now c.args.field.now) (columns (of c)) ≡ Some (c.first_column.result + c.in-Some.place)) × (c.first_column.result + c.in-Some.place < length (columns (of c)))
found c =
    let inst_at : position (is_inst_named c.args.inst.now) c.self.inside.decls.items ≡ Some c.args.d = subst (λ (g : GraphValue). position (is_inst_named c.args.inst.now) g.decls ≡ Some c.args.d) (sym c.self.view_is) c.requires in
    let read : slice_get c.self.inside.decls.items c.args.d ≡ Some c.index.result.now =
    slice_get_read c.self.inside.decls.items (length c.self.inside.decls.items) c.args.d c.index.result.now refl (first_below (is_inst_named c.args.inst.now) c.self.inside.decls.items c.args.d inst_at) c.index.ensures in
    let fields_at : position (λ f. bytes_eq f c.args.field.now) c.in-Inst.fields ≡ Some c.in-Some.place =
    subst (λ (fs : List (List ℕ)). position (λ f. bytes_eq f c.args.field.now) fs ≡ Some c.in-Some.place) (c.as_slice.ensures.value ∙ c.fields.view_is) c.in-Some.ensures.1 in
    column_found (of c) c.self.inside.tables c.args.inst.now c.args.field.now c.args.d c.first_column.result c.in-Some.place c.in-Inst.name c.in-Inst.space c.in-Inst.fields c.self.invariant.tables inst_at
    (read ∙ ap (λ d. Some d) c.in-Inst.is) c.first_column.ensures fields_at

pub first_column-requires : goal.first_column-requires
first_column-requires c =
    let inst_at : position (is_inst_named c.args.inst.now) c.self.inside.decls.items ≡ Some c.args.d = subst (λ (g : GraphValue). position (is_inst_named c.args.inst.now) g.decls ≡ Some c.args.d) (sym c.self.view_is) c.requires in
    let below : c.args.d < length c.self.inside.decls.items = first_below (is_inst_named c.args.inst.now) c.self.inside.decls.items c.args.d inst_at in
    let long : length c.self.inside.tables.first_columns ≡ length c.self.inside.decls.items = ap (λ (t : TablesValue). length t.first_columns) c.self.invariant.tables ∙ length-firsts columns_of 0 c.self.inside.decls.items in
    omega (arith, below, long)

pub overflow_add-result : goal.overflow_add-result
overflow_add-result c =
    let a = (goal.at.overflow_add-result c).After-first_column in
    let within : c.first_column.result + c.in-Some.place < length (columns (of a)) = (found a).1 in
    let few : length (columns (of a)) + length (data_columns (of a)) ≤ 4096 = c.self.invariant.limits.few_columns in
    omega (arith, within, few)

pub returns-in-Some : goal.returns-in-Some
returns-in-Some c =
    let a = (goal.at.returns-in-Some c).After-first_column in
    subst (λ (g : GraphValue). position (is_column_named c.args.inst.now c.args.field.now) (columns g) ≡ Some (c.first_column.result + c.in-Some.place)) c.self.view_is (found a).0
