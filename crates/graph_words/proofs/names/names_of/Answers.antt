use Rattle.graph_terms.specs.Name.{is_name_in}
use Rattle.graph_words.proofs.NameLists.{words_more, passed_more, failed_at}
use Rattle.graph_words.proofs.names.names_of.Goals as goal

pub returns-in_default : goal.returns-in_default
returns-in_default c = failed_at (is_name_in c.args.format) c.args.words.now c.loop-word.word-index _ c.loop-word-test.true c.in_default.ensures

pub loop-word-preserved : goal.loop-word-preserved
loop-word-preserved c = record {
  items = words_more c.args.words.now c.loop-word.word-index _ c.in-Some.name _ _ c.loop-word-test.true c.in-Some.ensures.0 c.loop-word.invariant.items c.in-Ok.ensures.items;
  each = passed_more (is_name_in c.args.format) c.args.words.now c.loop-word.word-index _ c.loop-word-test.true c.loop-word.invariant.each c.in-Some.ensures.1;
}
