use Rattle.graph_words.proofs.Public.{word_cut}
use Rattle.explain_text.proofs.FrontFacts.{all_pieces}
use Rattle.explain_text.proofs.split.split_front.Goals as goal

pub loop-rest-preserved : goal.loop-rest-preserved
loop-rest-preserved c = word_cut 10 c.loop-rest.parts.items c.push.new.items.items c.in-Some.part c.loop-rest.rest.now c.in-Some.after.now c.args.bytes.now c.in_ok-push-in-Some.ensures.ok c.in-Some.ensures c.loop-rest.invariant

pub returns-in-None : goal.returns-in-None
returns-in-None c = all_pieces c.all_lines.result c.loop-rest.parts.items c.loop-rest.rest.now c.args.bytes.now c.in-None.ensures c.loop-rest.invariant c.all_lines.ensures
