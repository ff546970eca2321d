use Rattle.explain_text.proofs.TextFacts.{byte_more}
use Rattle.explain_text.proofs.text.Text.put_for_each.Goals as goal

pub loop-each-preserved : goal.loop-each-preserved
loop-each-preserved c = byte_more c.args.bytes.now c.args.byte c.loop-each._each-index c.args.self.now c.loop-each.self c.put.new.self c.loop-each-test.true c.loop-each.invariant c.in_ok-put.ensures
