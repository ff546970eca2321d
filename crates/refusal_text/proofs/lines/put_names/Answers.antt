use Rattle.std.proofs.Common.{◌++◌, ◌∙◌, ap}
use Rattle.std.specs.Prelude.{flat_map}
use Rattle.std.proofs.lemmas.List.{take_all}
use Rattle.refusal_text.specs.Refused.{further_name}
use Rattle.refusal_text.proofs.RefusalFacts.{each_more}
use Rattle.refusal_text.proofs.lines.put_names.Goals as goal

pub loop-i-preserved : goal.loop-i-preserved
loop-i-preserved c =
    each_more (further_name c.args.graph.now) c.args.text.now c.loop-i.text c.put_further_name.new.text c.args.lines.now c.loop-i.i-index c.loop-i-test.true c.loop-i.invariant c.in_ok-put_further_name.ensures

pub returns : goal.returns
returns c = c.loop-i.invariant ∙ ap (λ is. c.args.text.now ++ flat_map (further_name c.args.graph.now) is) (take_all c.loop-i.i-index c.args.lines.now c.loop-i-test.false)
