use Rattle.graph_words.proofs.Public.{word_cut, last_word}
use Rattle.basics.proofs.Choices.{last_by}
use Rattle.session_text.proofs.words.split_into.Goals as goal

pub loop-word-preserved : goal.loop-word-preserved
loop-word-preserved c = word_cut 32 c.loop-word.words.items c.push.new.items.items c.in-Some.word c.loop-word.rest.now c.in-Some.after.now c.args.line.now c.in_ok-push.ensures.ok c.in-Some.ensures c.loop-word.invariant

pub returns : goal.returns
returns c = last_by c.push-2.result (last_word 32 c.loop-word.words.items c.push-2.new.items.items c.loop-word.rest c.args.line.now c.in_default.ensures c.loop-word.invariant) c.push-2.ensures.ok
