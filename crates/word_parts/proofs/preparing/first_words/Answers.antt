use Rattle.word_parts.proofs.PrepareFacts.{values_more, values_start, words_done}
use Rattle.std.proofs.Common.{arith}
use Rattle.word_parts.proofs.preparing.first_words.Goals as goal

pub loop-line-init : goal.loop-line-init
loop-line-init c = record { values = values_start c.args.graph.now _ c.in-Ok.words.items c.in-Ok.ensures (omega (arith, c.clock_word.ensures.word)) }

pub loop-line-preserved : goal.loop-line-preserved
loop-line-preserved c = record {
  values = values_more c.args.graph.now c.loop-line.line c.lines-lines.result c.first_value.result c.loop-line.words.items c.loop-line.invariant.values c.lines-lines.ensures.number (omega (arith, c.loop-line-test.true, c.lines-line-end.ensures.number)) c.first_value.ensures;
}

pub returns : goal.returns
returns c = words_done c.args.graph.now c.loop-line.line c.loop-line.words.items (omega (arith, c.loop-line-test.false, c.loop-line.auto.line-end, c.lines-line-end.ensures.number)) c.loop-line.invariant.values
