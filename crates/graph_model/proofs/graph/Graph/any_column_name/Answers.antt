use Rattle.std.proofs.Common.{◌∙◌, ap, arith}
use Rattle.std.specs.Prelude.{option_map}
use Rattle.graph_terms.specs.declared.decl.ColumnInfo.{ColumnInfo}
use Rattle.graph_terms.specs.Graph.{columns, data_columns}
use Rattle.graph_model.proofs.CallLaws.{get_behind}
use Rattle.graph_model.proofs.CountLaws.{get_before}
use Rattle.graph_model.proofs.graph.Graph.any_column_name.Goals as goal

pub returns-then-c-columns-clause-owner : goal.returns-then-c-columns-clause-owner
returns-then-c-columns-clause-owner c =
    ap (option_map (λ (x : ColumnInfo). x.inst)) (get_before (columns c.args.self.now) (data_columns c.args.self.now) c.args.c (omega arith)) ∙ c.column_name.ensures.inst

pub returns-then-c-columns-clause-field : goal.returns-then-c-columns-clause-field
returns-then-c-columns-clause-field c =
    ap (option_map (λ (x : ColumnInfo). x.field)) (get_before (columns c.args.self.now) (data_columns c.args.self.now) c.args.c (omega arith)) ∙ c.column_name.ensures.field

pub returns-else-c-columns-clause-owner : goal.returns-else-c-columns-clause-owner
returns-else-c-columns-clause-owner c =
    ap (option_map (λ (x : ColumnInfo). x.inst)) (get_behind (columns c.args.self.now) (data_columns c.args.self.now) _ c.args.c (omega arith)) ∙ c.data_column_name.ensures.owner

pub returns-else-c-columns-clause-field : goal.returns-else-c-columns-clause-field
returns-else-c-columns-clause-field c =
    ap (option_map (λ (x : ColumnInfo). x.field)) (get_behind (columns c.args.self.now) (data_columns c.args.self.now) _ c.args.c (omega arith)) ∙ c.data_column_name.ensures.field
