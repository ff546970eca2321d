use Rattle.graph_words.proofs.Public.{word_cut, last_word}
use Rattle.line_forms.proofs.splitting.split_long.Goals as goal

pub loop-part-preserved : goal.loop-part-preserved
loop-part-preserved c = word_cut c.args.separator c.loop-part.parts.items c.push.new.items.items c.in-Some.part c.loop-part.rest.now c.in-Some.after.now c.args.bytes.now c.in_ok-push.ensures.ok c.in-Some.ensures c.loop-part.invariant

pub returns : goal.returns
returns c = last_word c.args.separator c.loop-part.parts.items c.push-2.new.items.items c.loop-part.rest c.args.bytes.now c.in_default.ensures c.loop-part.invariant c.in_ok-push-2.ensures.ok
