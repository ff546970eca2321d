use Rattle.std.proofs.Common.{◌∙◌, ap, []}
use Rattle.std.specs.Prelude.{flat_map}
use Rattle.std.proofs.lemmas.List.{take_all}
use Rattle.basics.specs.Words.{contents}
use Rattle.line_forms.specs.Advice.{told_text}
use Rattle.line_forms.proofs.Parts.{each_more}
use Rattle.line_forms.proofs.advice.told_texts.Goals as goal

pub loop-form-preserved : goal.loop-form-preserved
loop-form-preserved c =
    each_more (told_text c.args.format (contents c.args.words.now)) c.args.forms.now c.loop-form.form-index _ [] c.loop-form.out.items c.put_told.new.out.items c.loop-form-test.true c.loop-form.invariant c.in_ok-put_told.ensures

pub returns : goal.returns
returns c = c.loop-form.invariant ∙ ap (flat_map (told_text c.args.format (contents c.args.words.now))) (take_all c.loop-form.form-index c.args.forms.now c.loop-form-test.false)
