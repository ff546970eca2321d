use Rattle.std.proofs.Common.{◌≡◌, ◌≤◌, length, sym, arith}
use Rattle.graph_terms.specs.Names.{is_column_named}
use Rattle.graph_model.specs.Columns.{all_columns}
use Rattle.explain_top.proofs.ColumnFacts.{columns_size, is_first, none_more, none_first}
use Rattle.explain_top.proofs.columns.find_column.Goals as goal

pub returns-then-is_named : goal.returns-then-is_named
returns-then-is_named c =
    sym (is_first (is_column_named c.args.owner.now c.args.field.now) (all_columns c.args.graph.now) c.loop-column.column c.if-is_named.ensures c.loop-column.invariant)

pub loop-column-preserved : goal.loop-column-preserved
loop-column-preserved c = none_more (is_column_named c.args.owner.now c.args.field.now) (all_columns c.args.graph.now) c.loop-column.column c.if-is_named.ensures c.loop-column.invariant

pub returns : goal.returns
returns c =
    let g = c.args.graph.now in
    let all = c.all_columns-column-end.ensures.number in
    let size = columns_size g in
    let test = c.loop-column-test.false in
    let past : length (all_columns g) ≤ c.loop-column.column = omega (arith, all, size, test) in
    sym (none_first (is_column_named c.args.owner.now c.args.field.now) (all_columns g) c.loop-column.column past c.loop-column.invariant)
