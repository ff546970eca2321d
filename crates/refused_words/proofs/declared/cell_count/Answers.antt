use Rattle.std.proofs.Common.{[], ◌∙◌, ap, arith}
use Rattle.index_spaces.specs.Space.{space_size}
use Rattle.refused_words.proofs.LimitFacts.{cells_next}
use Rattle.refused_words.proofs.declared.cell_count.Goals as goal

pub loop-c-preserved : goal.loop-c-preserved
loop-c-preserved c = record {
  count = cells_next c.args.graph.now c.loop-c.c c.loop-c.count c.size-count.result (record { inst = []; field = []; space = 0 }) (omega (arith, c.loop-c-test.true, c.columns-c-end.ensures.number)) c.loop-c.invariant.count
      (c.size-count.ensures.size ∙ ap space_size c.column_space.ensures);
  few = omega (arith, c.loop-c.invariant.few, c.size-count.ensures.at_most);
}
