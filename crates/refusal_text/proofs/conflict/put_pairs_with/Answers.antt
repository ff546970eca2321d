use Rattle.std.proofs.Common.{◌++◌, ◌∙◌, ap}
use Rattle.std.specs.Prelude.{flat_map}
use Rattle.std.proofs.lemmas.List.{take_all}
use Rattle.refusal_text.specs.Refused.{pair_text}
use Rattle.refusal_text.proofs.RefusalFacts.{each_more}
use Rattle.refusal_text.proofs.conflict.put_pairs_with.Goals as goal

pub loop-other-preserved : goal.loop-other-preserved
loop-other-preserved c =
    each_more (pair_text c.args.graph.now c.args.lines.now c.args.acquire) c.args.text.now c.loop-other.text c.put_pair.new.text c.args.others.now c.loop-other.other-index c.loop-other-test.true c.loop-other.invariant c.in_ok-put_pair.ensures

pub returns : goal.returns
returns c = c.loop-other.invariant ∙ ap (λ qs. c.args.text.now ++ flat_map (pair_text c.args.graph.now c.args.lines.now c.args.acquire) qs) (take_all c.loop-other.other-index c.args.others.now c.loop-other-test.false)
