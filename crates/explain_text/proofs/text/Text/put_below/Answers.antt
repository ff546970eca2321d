use Rattle.std.proofs.Common.{◌++◌, ◌∙◌, ap, map}
use Rattle.std.proofs.lemmas.List.{take_all}
use Rattle.explain_text.specs.Visible.{visible}
use Rattle.explain_text.proofs.TextFacts.{below_more}
use Rattle.explain_text.proofs.text.Text.put_below.Goals as goal

pub loop-each-preserved : goal.loop-each-preserved
loop-each-preserved c = below_more c.args.bytes.now c.args.byte c.loop-each.each-index c.args.self.now c.loop-each.self c.put_below_byte.new.self c.loop-each-test.true c.loop-each.invariant c.in_ok-put_below_byte.ensures

pub returns : goal.returns
returns c = c.loop-each.invariant ∙ ap (λ bs. c.args.self.now ++ map (λ b. c.args.byte) (visible bs)) (take_all c.loop-each.each-index c.args.bytes.now c.loop-each-test.false)
