use Rattle.std.proofs.Common.{◌++◌, ap, ◌∙◌, ◌+◌, drop}
use Rattle.realm_io.proofs.Public.{stops, goes_on, breaks_off}
use Rattle.run_report.specs.Report.{cells_texts, column_texts}
use Rattle.run_report.proofs.ReportRest.{columns_left, column_named}
use Rattle.run_report.proofs.report.put_columns.Goals as goal

pub returns-in_err-put_column : goal.returns-in_err-put_column
returns-in_err-put_column g c =
    let x = c.at.result.now in
    let rest = column_texts c.args.graph.now (c.loop-c.c + 1) (drop (c.loop-c.c + 1) c.args.outcome.now.columns) in
    stops _ _ _ c.from_residual.result c.from_residual.ensures.0
    (breaks_off _ _ _ _ _ _ _ c.loop-c.invariant
    (columns_left c.args.graph.now _ c.loop-c.c _ c.at.ensures ∙ ap (λ n. cells_texts n x.space x.cells ++ rest) (column_named _ _ _ c.column_name-inst.ensures.inst c.column_name-inst.ensures.field)) c.in_err-put_column.ensures)

pub loop-c-preserved : goal.loop-c-preserved
loop-c-preserved g c =
    let x = c.at.result.now in
    let rest = column_texts c.args.graph.now (c.loop-c.c + 1) (drop (c.loop-c.c + 1) c.args.outcome.now.columns) in
    goes_on _ _ _ _ _ _ _ c.loop-c.invariant
    (columns_left c.args.graph.now _ c.loop-c.c _ c.at.ensures ∙ ap (λ n. cells_texts n x.space x.cells ++ rest) (column_named _ _ _ c.column_name-inst.ensures.inst c.column_name-inst.ensures.field)) c.in_ok-put_column.ensures
