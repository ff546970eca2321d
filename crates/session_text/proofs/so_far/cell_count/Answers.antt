use Rattle.std.proofs.Common.{◌<◌, length, ap, ◌∙◌, arith}
use Rattle.index_spaces.specs.Space.{space_size}
use Rattle.graph_terms.specs.Graph.{columns}
use Rattle.session_text.proofs.Cells.{one_column, all_columns}
use Rattle.session_text.proofs.so_far.cell_count.Goals as goal

pub overflow_add-cells : goal.overflow_add-cells
overflow_add-cells c = omega (arith, c.size-cells.ensures.at_most, c.columns-c-end.ensures.few, c.loop-c.invariant.few)

pub loop-c-preserved : goal.loop-c-preserved
loop-c-preserved c =
    let at : c.loop-c.c < length (columns c.args.graph.now) = omega arith in
    record {
      sum = one_column c.args.graph.now c.loop-c.c c.loop-c.cells c.size-cells.result at c.loop-c.invariant.sum (c.size-cells.ensures.size ∙ ap space_size c.column_space.ensures);
      few = omega (arith, c.size-cells.ensures.at_most, c.loop-c.invariant.few);
    }

pub returns-clause-few : goal.returns-clause-few
returns-clause-few c = omega (arith, c.loop-c.invariant.few, c.columns-c-end.ensures.few)

pub returns-clause-cells : goal.returns-clause-cells
returns-clause-cells c = all_columns c.args.graph.now c.loop-c.c c.loop-c.cells (omega arith) c.loop-c.invariant.sum
