use Rattle.graph_words.proofs.CutBytes.{word_cut, last_word}
use Rattle.basics.proofs.Choices.{last_by}
use Rattle.graph_words.proofs.words.split_into.Goals as goal

pub loop-word-preserved : goal.loop-word-preserved
loop-word-preserved c = word_cut c.args.separator c.loop-word.words.items c.push.new.items.items c.in-Some.word c.loop-word.rest.now c.in-Some.after.now c.args.bytes.now c.in_ok-push.ensures.ok c.in-Some.ensures c.loop-word.invariant

pub returns : goal.returns
returns c = last_by c.push-2.result (last_word c.args.separator c.loop-word.words.items c.push-2.new.items.items c.loop-word.rest c.args.bytes.now c.in_default.ensures c.loop-word.invariant) c.push-2.ensures.ok
