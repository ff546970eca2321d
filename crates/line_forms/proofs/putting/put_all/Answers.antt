use Rattle.std.proofs.Common.{◌++◌, ◌∙◌, ap}
use Rattle.std.specs.List.{concat}
use Rattle.std.proofs.lemmas.List.{take_all}
use Rattle.basics.specs.Words.{contents}
use Rattle.line_forms.proofs.Parts.{part_more}
use Rattle.line_forms.proofs.putting.put_all.Goals as goal

pub loop-part-preserved : goal.loop-part-preserved
loop-part-preserved c = part_more c.args.parts.now c.loop-part.part-index _ c.args.out.now.items c.loop-part.out.items c.put.new.out.items c.loop-part-test.true c.loop-part.invariant c.in_ok-put.ensures

pub returns : goal.returns
returns c = c.loop-part.invariant ∙ ap (λ ws. c.args.out.now.items ++ concat (contents ws)) (take_all c.loop-part.part-index c.args.parts.now c.loop-part-test.false)
