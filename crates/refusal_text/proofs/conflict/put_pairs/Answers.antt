use Rattle.std.proofs.Common.{◌++◌, ◌∙◌, ap}
use Rattle.std.specs.Prelude.{flat_map}
use Rattle.std.proofs.lemmas.List.{take_all}
use Rattle.refusal_text.specs.Refused.{pairs_with}
use Rattle.refusal_text.proofs.RefusalFacts.{each_more}
use Rattle.refusal_text.proofs.conflict.put_pairs.Goals as goal

pub loop-acquire-preserved : goal.loop-acquire-preserved
loop-acquire-preserved c =
    each_more (pairs_with c.args.graph.now c.args.lines.now c.args.others.now) c.args.text.now c.loop-acquire.text c.put_pairs_with.new.text c.args.acquires.now c.loop-acquire.acquire-index c.loop-acquire-test.true c.loop-acquire.invariant c.in_ok-put_pairs_with.ensures

pub returns : goal.returns
returns c = c.loop-acquire.invariant ∙ ap (λ qs. c.args.text.now ++ flat_map (pairs_with c.args.graph.now c.args.lines.now c.args.others.now) qs) (take_all c.loop-acquire.acquire-index c.args.acquires.now c.loop-acquire-test.false)
